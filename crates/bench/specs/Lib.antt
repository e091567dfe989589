pub mod Mixing
pub mod Feeding
