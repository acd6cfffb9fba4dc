-- What the contracts of `words` cite, and its laws.
pub mod Words
