-- The stretches of one line.
pub mod Stretches
pub mod StretchLaws
