-- One protected byte and its parity checks: SCOPE 5, after EN 300 706; how a byte was heard: SCOPE 19.2; and the turning: SCOPE 6.6.
pub mod Bits
pub mod Image
pub mod Decoding
pub mod Hearing
pub mod Parity
pub mod Turning
pub mod Packing
