-- Laws that several proofs cite, and what holds of every capture.
pub mod Fed
pub mod Pulls
pub mod Moving
pub mod Spanning
