-- A horizontal record by ranks.
pub mod Words
pub mod Lines
