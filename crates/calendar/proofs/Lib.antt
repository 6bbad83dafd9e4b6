mod Columns
mod Following
mod Months
mod Weeks
