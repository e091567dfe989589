pub mod Entries
pub mod Events
pub mod Listed
pub mod Records
pub mod Storing
pub mod Texts
pub mod Walking
pub mod Wholes
