-- The reader's state and what a packet does to it: SCOPE 8 to 10. What a packet does to page and index stands in `pages`, and the reading
-- of its 39 bytes in `walk`.
pub mod Acting
pub mod State
pub mod Two
