-- Laws that several proofs cite.
pub mod Fitting
pub mod Following
pub mod Noting
pub mod Telling
