pub mod Rowed
pub mod Formats
pub mod Forms
pub mod Formed
pub mod Sizes
pub mod Sending
pub mod Cases
