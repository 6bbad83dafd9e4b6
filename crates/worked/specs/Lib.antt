pub mod Allocations
pub mod Rationing
