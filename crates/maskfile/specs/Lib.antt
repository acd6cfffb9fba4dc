-- What the parts of the reader answer.
pub mod Due
pub mod Outcome
