pub mod Alike
pub mod Applied
pub mod Cases
pub mod Judging
pub mod Keys
pub mod Putting
pub mod Reading
pub mod Told
