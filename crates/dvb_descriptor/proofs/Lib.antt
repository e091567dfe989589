pub mod Packing
pub mod Walking
pub mod Judging
pub mod Cases
pub mod Back
