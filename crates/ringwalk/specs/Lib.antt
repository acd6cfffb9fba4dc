-- What is made of a ring list, and the way through it.
pub mod Made
pub mod Walks
