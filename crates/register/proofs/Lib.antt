pub mod Finding
pub mod Keeping
pub mod Passing
mod Scanning
mod Giving
mod Posting
