pub mod Along
pub mod Listed
pub mod Fits
pub mod Penned
pub mod Recorded
