-- The better of two packets that two aerials heard: SCOPE 18.
pub mod Better
