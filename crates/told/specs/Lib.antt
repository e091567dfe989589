-- What the programs tell: SCOPE 13.8 and 13.11.
pub mod Fronts
pub mod Names
