pub mod Looped
pub mod Descriptors
pub mod Whole
pub mod Sealing
