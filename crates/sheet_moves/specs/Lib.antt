-- The moves of a day sheet between the two forms: SCOPE 30.6. What the calls owe.
pub mod Moving
pub mod Internal
