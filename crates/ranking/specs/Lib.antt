-- What the contracts of `ranking` cite.
pub mod Ranked
