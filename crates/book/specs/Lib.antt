pub mod Books
pub mod Faults
pub mod Figures
pub mod FiledRows
pub mod InUse
pub mod Keyed
pub mod ReadingRows
