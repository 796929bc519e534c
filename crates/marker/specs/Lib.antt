pub mod Letters
pub mod Faults
pub mod Verdicts
pub mod Table
pub mod Spans
pub mod Tasks
pub mod Markings
