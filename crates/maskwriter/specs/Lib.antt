-- What the parts of the writer answer, and the laws of the file that is made.
pub mod Stored
pub mod Differences
pub mod Filed
