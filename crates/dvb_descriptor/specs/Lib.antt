-- A Subtitle table as the teletext descriptor of EN 300 468, and back: SCOPE 29.
pub mod Subtitles
pub mod Entries
pub mod Calls
pub mod Internal
