-- An entry of a day sheet: SCOPE 20.2 to 20.7. Its key and its text, the entry that bytes say, and what a call writes.
pub mod Entries
pub mod Reading
pub mod Writing
pub mod Internal
