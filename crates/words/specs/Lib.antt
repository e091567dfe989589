-- What a program can be told, as data: its options, its rows, and what its words say.
pub mod Rows
pub mod Numbers
pub mod Places
pub mod Options
pub mod Words
