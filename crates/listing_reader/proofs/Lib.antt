pub mod Matching
pub mod Rowed
pub mod Rows
pub mod Spells
pub mod Walks
