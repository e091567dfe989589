pub mod Judged
pub mod Headed
pub mod Seeing
pub mod Beside
