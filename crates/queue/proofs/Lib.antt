mod Digits
pub mod Firsts
mod Fronts
mod Sifts
