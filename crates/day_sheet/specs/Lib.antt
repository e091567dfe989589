-- The day sheet: SCOPE 20. Its entries and their text, the sheet that bytes say, dropping, and what the calls owe.
pub mod Entries
pub mod Reading
pub mod Dropping
pub mod Calls
pub mod Saying
pub mod Faults
pub mod Dropped
pub mod Internal
