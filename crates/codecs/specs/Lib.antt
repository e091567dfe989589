-- Formats as data: each says once how a value is laid in a row of bits, with codes that follow them, and how it is read back.
pub mod Rows
pub mod Codec
