pub mod Stripping
pub mod Statements
pub mod Blanking
