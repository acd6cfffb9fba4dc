-- The laws that rest on how a decimal number and a record's line are written.
pub mod Decimals
pub mod Lines
