-- What the contracts of `edge` cite, and its laws.
pub mod Keys
