-- Proofs that the contracts of this crate cite; no definition to read stands here.
pub mod WaitingOrders
