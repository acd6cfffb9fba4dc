-- What the C functions promise beyond the calls that they hand on. Definitions only.
pub mod Shown
