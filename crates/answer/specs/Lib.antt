pub mod Answer
pub mod Reasons
pub mod Rules
pub mod Values
pub mod Writing
