pub mod Forms
pub mod Formed
pub mod Nibbled
pub mod Saying
pub mod Spelling
pub mod Formats
