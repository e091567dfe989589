-- Reading Application Information, EN 300 707, clause 11.2: what a block's control data and strings hold, and the rules by which it is taken.
pub mod Reading
pub mod Internal
