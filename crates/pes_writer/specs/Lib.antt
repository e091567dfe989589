-- Writing PES packets, and what can be written as one: SCOPE 6.2 and 6.10, after EN 300 472.
pub mod Records
pub mod Writing
pub mod Owed
pub mod Internal
