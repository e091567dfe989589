-- Within a packet: SCOPE 9.
pub mod Mode
pub mod Store
pub mod Reading
pub mod Places
pub mod Internal
