pub mod Heeding
pub mod Running
pub mod Marks
pub mod Answering
pub mod AnsweringMany
pub mod Tagging
pub mod HeedingTwo
pub mod RunningTwo
pub mod MarksTwo
pub mod AnsweringTwo
mod Holding
