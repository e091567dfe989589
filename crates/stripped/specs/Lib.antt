-- What a PES packet becomes on its way to a reader, and what goes out where one is lost: SCOPE 6.12.
pub mod Stripped
pub mod Loss
