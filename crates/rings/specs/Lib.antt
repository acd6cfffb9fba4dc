-- The functions that judge rings number by number.
pub mod State
