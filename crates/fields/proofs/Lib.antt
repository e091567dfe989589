pub mod Laid
pub mod Bits
pub mod Inking
mod Landing
