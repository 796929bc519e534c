pub mod Heaps
pub mod Items
pub mod Orders
