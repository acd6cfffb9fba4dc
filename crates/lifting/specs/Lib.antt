-- An edge list in steps, and its laws.
pub mod InSteps
pub mod Columns
