-- What the unit walk finds, as one number.
pub mod Values
