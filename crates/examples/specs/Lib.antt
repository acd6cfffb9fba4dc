-- The checked examples of document 01.
pub mod Shown
pub mod Runs
pub mod Table
pub mod Printing
