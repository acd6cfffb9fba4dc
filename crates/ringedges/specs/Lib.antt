-- What the parts of the edge maker write, and the laws of the edges that are made.
pub mod Ended
pub mod Begun
