-- What the contracts of `numerals` cite, and its laws.
pub mod Stored
