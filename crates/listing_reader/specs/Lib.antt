-- A table's lines read back: SCOPE 13.2 and 20.6. A line, things in a row, and the descriptors that the lines say.
pub mod Lines
pub mod Many
pub mod Reading
pub mod Internal
