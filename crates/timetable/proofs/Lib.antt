pub mod Changing
pub mod Counts
pub mod Earliests
pub mod Finding
pub mod Frees
pub mod Orders
pub mod Pairs
pub mod Passes
pub mod Sounds
mod Words
mod WordRuns
mod WordGaps
mod Scans
mod WordSteps
mod Writes
mod Marked
mod Gaps
mod Remarks
