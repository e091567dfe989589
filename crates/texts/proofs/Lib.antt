-- Laws that several proofs cite.
pub mod Walking
