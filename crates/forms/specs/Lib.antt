-- Subtitle (TI) and Language (LI) tables as values: SCOPE 12, after EN 300 707, tables 15 and 17; their form in lent bytes; the rules
-- by which a form can be written; and the block that is sent of one.
pub mod Tables
pub mod Form
pub mod Writing
pub mod Block
pub mod Kinds
pub mod Words
pub mod Internal
