pub mod Judging
pub mod Steps
pub mod Lent
pub mod Handing
