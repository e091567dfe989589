pub mod Walk
pub mod Room
