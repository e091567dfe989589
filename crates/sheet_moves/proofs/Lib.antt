pub mod Carried
pub mod Moved
