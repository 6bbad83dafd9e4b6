pub mod Limits
pub mod Parties
pub mod PeriodRows
pub mod PeriodTables
pub mod Refusals
pub mod Registers
pub mod Registration
pub mod Rolls
