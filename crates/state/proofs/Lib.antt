pub mod Bounding
pub mod Clearing
pub mod Holding
pub mod Ranging
pub mod Handing
pub mod Beside
pub mod BothRanging
