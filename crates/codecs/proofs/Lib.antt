pub mod Codes
pub mod Lawful
pub mod Found
