pub mod Cases
pub mod Hearing
pub mod Laws
pub mod Lowest
pub mod Rows
mod Eights
mod Halves
