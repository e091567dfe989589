pub mod Decimals
pub mod Printed
pub mod Spelling
pub mod Putting
