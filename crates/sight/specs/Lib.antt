-- What is seen of a capture besides its tables: SCOPE 13.9, 13.10, 27.8.
pub mod Sights
