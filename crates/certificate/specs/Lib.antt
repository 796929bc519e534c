pub mod Answers
pub mod Sheets
pub mod Calls
pub mod Certificate
pub mod Promise
pub mod Cases
pub mod Slips
