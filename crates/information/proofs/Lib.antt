pub mod Walking
pub mod Networks
pub mod Holding
pub mod Lengths
pub mod Parts
pub mod Exact
