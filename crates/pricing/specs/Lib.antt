pub mod Limits
pub mod Money
pub mod DemandErrors
pub mod Factors
pub mod Spills
pub mod Makeup
pub mod Editions
pub mod Theorems
