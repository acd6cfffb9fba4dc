-- The checked examples of document 01, proved.
pub mod Table
pub mod Printing
