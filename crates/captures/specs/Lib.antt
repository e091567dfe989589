-- A capture, from what was read to the records that come of it: SCOPE 10.6, 10.7, 13.9, 13.10, 27.8.
pub mod Reading
pub mod Spans
pub mod Courses
pub mod Feeding
pub mod Pulling
