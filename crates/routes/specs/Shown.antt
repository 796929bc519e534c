-- Proofs that the laws of this crate's types rest on: no definition to read stands below here.
-- An implementation's law may cite only files of specs/, so they cannot stand in proofs/.
pub mod Shortest
pub mod Reading
pub mod Ways
pub mod Settling
pub mod Turns
pub mod Distances
pub mod WaysBack
pub mod Carrying
pub mod LinksOnce
pub mod RoutesAmong
pub mod SearchedLaws
pub mod SearchedKept
pub mod KindLaws
pub mod WayOrders
pub mod Kept
pub mod Walked
