-- A block, whatever it holds: the record that carries it, the two bytes behind its 16 bits, its frame, its checksum, and what reading makes
-- of it.
pub mod Block
pub mod Sizes
pub mod Parts
pub mod Place
pub mod Sums
pub mod Sealing
pub mod Framing
pub mod Outcome
pub mod Taking
pub mod Values
