pub mod Measures
pub mod Sendable
pub mod Forms
pub mod Judging
mod Words
pub mod Formats
pub mod Blocks
