mod Judging
pub mod Places
pub mod Exact
pub mod Back
pub mod Noise
pub mod Calls
pub mod Cases
pub mod Loops
pub mod Fitting
pub mod Written
