pub mod Runs
pub mod Parting
pub mod Numbers
pub mod Spelled
pub mod Lining
pub mod Hops
pub mod Spaced
pub mod ReadsBack
pub mod Unlined
pub mod Answering
pub mod Named
pub mod Drained
pub mod Stated
pub mod Spacing
mod EarlierForms
