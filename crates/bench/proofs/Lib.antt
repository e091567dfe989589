mod Mixing
mod Feeding
