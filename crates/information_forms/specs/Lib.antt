-- Application Information, EN 300 707, clause 11.2, as a value: its format, its form in lent bytes, its block, and the rules by which a
-- form can be written.
pub mod Rows
pub mod Information
pub mod Form
pub mod Kind
pub mod Writing
