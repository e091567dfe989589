pub mod Setting
pub mod Packet
pub mod Address
pub mod Two
