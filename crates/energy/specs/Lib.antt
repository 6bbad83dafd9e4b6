pub mod Codes
pub mod Directions
pub mod Grids
pub mod PartyCodes
pub mod Totals
pub mod Units
