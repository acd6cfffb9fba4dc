-- Words in buckets, and sorted by digits.
pub mod Buckets
pub mod Laws
pub mod Loops
pub mod Moved
pub mod Stable
pub mod Digits
pub mod Passes
