-- Records to packets of the guide page: SCOPE 11.
pub mod Cutting
pub mod Order
pub mod Internal
