-- The laws of the expression.
pub mod Reader
pub mod Steps
pub mod Sound
pub mod Complete
pub mod Meanings
pub mod Depth
pub mod Judging
pub mod Replace
pub mod Parts
pub mod Cover
pub mod Covers
pub mod Doubling
pub mod Spots
