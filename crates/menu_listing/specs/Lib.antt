-- Menus as text, from a menu on and down its links: SCOPE 23.8.
pub mod Lines
pub mod Listing
pub mod Kept
pub mod Internal
