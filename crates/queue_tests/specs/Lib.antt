pub mod Orders
pub mod TotalOrders
