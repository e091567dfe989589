-- Reading Subtitle (TI) and Language (LI) blocks: SCOPE 12 and 19, after EN 300 707, tables 15 and 17: the rules, the answer, how long a
-- block is, the table in it.
pub mod Reading
pub mod Lengths
pub mod Control
pub mod Internal
