-- The edges of a good ring list keep the rules of edge lists.
pub mod Accepted
