-- Whether a broadcast is lawful: EN 300 707, annex D; SCOPE 31
pub mod Counting
pub mod Same
pub mod Lawful
pub mod Internal
