-- The words that a program was called with: SCOPE 13.12.
pub mod Hearing
