-- The data units of a PES packet, and the id and line byte of a text unit: SCOPE 6.4 to 6.7, after EN 300 472.
pub mod Units
pub mod Values
pub mod Marks
