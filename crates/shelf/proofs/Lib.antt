pub mod Ways
pub mod Puts
pub mod Stored
pub mod Kept
