-- The laws behind the functions proofs.
mod Ending
