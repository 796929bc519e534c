pub mod Rounding
pub mod Firsts
pub mod Lowests
pub mod Jobs
pub mod Networks
pub mod Tables
pub mod Counts
