-- Reading PES packets and their units: SCOPE 6, after EN 300 472.
pub mod Header
pub mod Reading
pub mod Finding
pub mod Texts
