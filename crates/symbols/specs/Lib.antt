-- The writer's stream (SCOPE 11): one symbol a byte, in cells of three.
pub mod Stream
pub mod Pen
pub mod Cells
pub mod Internal
