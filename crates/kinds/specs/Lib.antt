-- A kind of block, said once for all of them: what its control data opens with, what stands behind that, the block that is sent, and the
-- rules by which one is read. EN 300 707, tables 11, 15, 17, 19; SCOPE 3.6, 12, 23.
pub mod Front
pub mod Kind
pub mod Block
pub mod Reading
pub mod Internal
