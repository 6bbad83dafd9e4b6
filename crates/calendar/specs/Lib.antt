pub mod Calendar
pub mod Weekdays
pub mod Dates
pub mod Periods
pub mod Seasons
pub mod Columns
pub mod Theorems
pub mod TradingDays
