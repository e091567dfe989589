pub mod Addressed
