-- Texts held against each other.
pub mod Texts
