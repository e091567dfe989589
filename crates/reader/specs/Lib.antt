-- The reader's calls, for one packet and for a list of them, of one stream and of two: SCOPE 8 to 10 and 27. The state and what a packet does to it stand in `state`.
pub mod Taking
pub mod Values
pub mod Calls
pub mod Feeding
pub mod Many
pub mod Internal
pub mod Two
pub mod InternalTwo
