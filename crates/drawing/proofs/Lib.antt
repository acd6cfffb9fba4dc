-- The laws by which `draw` is proved, and what is proved of its promise: one answer, and the checked example.
pub mod Values
pub mod Exact
pub mod Tests
pub mod Rows
pub mod Unique
pub mod Examples
