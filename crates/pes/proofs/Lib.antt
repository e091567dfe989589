pub mod Filling
pub mod Finding
pub mod Heading
pub mod Walk
pub mod Runs
