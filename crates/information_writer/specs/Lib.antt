-- Writing Application Information: what only its private calls cite.
pub mod Internal
