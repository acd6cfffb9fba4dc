-- Laws of reading a mask file.
pub mod Stored
pub mod Walk
pub mod Whole
