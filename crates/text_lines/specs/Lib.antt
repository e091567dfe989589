-- A line of the desk's list (SCOPE 13.2 to 13.4), and text put at a place.
pub mod Codes
pub mod Lines
pub mod Putting
pub mod Put
