-- What records add to the area.
pub mod Weights
pub mod WeightLaws
