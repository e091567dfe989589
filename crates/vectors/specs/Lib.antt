-- What the programs try_NAME share: the form of their cases, the output that they lend, what a line is.
pub mod Cases
pub mod Lent
pub mod Ending
pub mod Internal
