pub mod Back
pub mod Cases
pub mod Fills
pub mod Given
pub mod Making
pub mod Statements
pub mod Fits
