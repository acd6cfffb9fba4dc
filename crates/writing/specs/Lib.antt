-- The result into the lent buffer.
pub mod Writing
pub mod Parts
pub mod Loops
pub mod Whole
