-- What is shown of the calls run and area.
pub mod Judging
pub mod Refusals
pub mod Parts
