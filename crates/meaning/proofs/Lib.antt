-- Spot checks of the definitions in specs/, and no law.
pub mod Spots
pub mod PrintedSpots
