-- The sweep, place after place.
pub mod Filling
pub mod Going
