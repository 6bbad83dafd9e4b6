pub mod Coding
pub mod Division
pub mod Grids
pub mod Sums
pub mod Totals
