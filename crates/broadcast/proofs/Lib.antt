pub mod Accepting
pub mod Tallying
pub mod Records
pub mod Networks
pub mod Counted
pub mod Alike
pub mod Judged
pub mod Exact
