-- Fields of some bits each, in control data: EN 300 707, clause 9 and annex A.3.
pub mod Fields
pub mod Compound
pub mod Pens
pub mod Opening
