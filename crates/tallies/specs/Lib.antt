-- What the contract of `tallies` cites, and its laws.
pub mod Tallies
pub mod Laws
