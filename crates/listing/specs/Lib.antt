-- A table as the desk's lines: SCOPE 13.2, 19.7 and 26.6.
pub mod Lines
pub mod Internal
