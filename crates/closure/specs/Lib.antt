-- Closed by ends, on the ranks: what the contracts of `closure` cite, and its laws.
pub mod Testing
pub mod TestLaws
pub mod OnlyOne
pub mod Balance
pub mod Closing
