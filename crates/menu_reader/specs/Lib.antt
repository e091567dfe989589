-- Reading menus, the Navigation Information of EN 300 707, clause 11.6: SCOPE 23: the menu in a block's control data and strings, and the rules
-- by which it is taken.
pub mod Control
pub mod Reading
pub mod Internal
