-- The bytes of strings: EN 300 707, annex A.4; SCOPE 23.
pub mod Parity
