-- What the program's answer is, and the laws of its parts.
pub mod Split
pub mod Parts
pub mod Edges
pub mod Files
pub mod Answered
