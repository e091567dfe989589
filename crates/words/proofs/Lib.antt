-- Laws that several proofs cite.
pub mod Cases
pub mod Finding
pub mod Hearing
pub mod Placing
pub mod Ranging
pub mod Reading
pub mod Setting
