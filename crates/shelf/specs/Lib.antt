-- Menus kept by number: SCOPE 23.9.
pub mod Shelf
pub mod Putting
