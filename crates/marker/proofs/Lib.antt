pub mod Parts
pub mod Fits
pub mod FirstAnswers
pub mod Rows
pub mod Overlaps
pub mod Searches
