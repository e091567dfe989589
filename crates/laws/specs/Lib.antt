-- What definitions of several crates are made of.
pub mod Pick
pub mod Bytes
pub mod Each
pub mod Range
pub mod Keyed
pub mod Orders
pub mod Together
