-- The rows of the strips, and what one edge changes in them.
pub mod Rows
pub mod Lent
pub mod Cover
pub mod CoverLaws
pub mod PassLaws
pub mod Strips
pub mod StripLaws
