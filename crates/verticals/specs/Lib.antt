-- What the contracts of `verticals` cite, and its laws.
pub mod Ends
pub mod Words
pub mod Parts
pub mod Counting
pub mod Placed
pub mod Result
