-- What changed from one day sheet to another: SCOPE 28. The lines that are printed, what the call owes, and what it is to apply them.
pub mod Lines
pub mod Calls
pub mod Applying
pub mod Saying
pub mod Internal
