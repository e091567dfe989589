-- Day sheets joined and added to: SCOPE 20.8, 25. Going along two sheets, which entry of a key stays, and what the calls owe.
pub mod Along
pub mod Turns
pub mod Joining
pub mod Calls
pub mod AnyOrder
pub mod Work
pub mod Late
pub mod Internal
