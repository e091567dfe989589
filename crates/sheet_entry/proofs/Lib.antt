pub mod Counting
pub mod Entered
pub mod Finding
pub mod Heading
pub mod Heads
pub mod Spelling
