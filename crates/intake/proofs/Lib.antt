pub mod Adding
pub mod Fitting
pub mod Heading
pub mod Looping
pub mod Taking
