-- Sums over lists: by them two lists are compared, and what a walk over a sorted list has counted is said.
pub mod Sums
pub mod Laws
pub mod Members
pub mod Filling
pub mod Pairs
