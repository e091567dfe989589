-- Menus, the Navigation Information of EN 300 707, clause 11.6, as values: SCOPE 23; their fields, their form in lent bytes, and the rules by
-- which a form can be written.
pub mod Rows
pub mod Menus
pub mod Form
pub mod Block
pub mod Writing
