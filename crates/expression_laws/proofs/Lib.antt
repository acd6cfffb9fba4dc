-- The spot checks of the expression, computed.
pub mod Spots
