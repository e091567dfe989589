-- What a packet can be to the reader, what packet 0 is, what any packet is by its address, and what each does: SCOPE 8; to a reader of two streams: SCOPE 27.
pub mod Headers
pub mod Seen
pub mod Judging
pub mod Two
pub mod Verdicts
pub mod Internal
