-- Reading number by number: the state after what has been read is what the paper says of it, and what going through a whole list comes to.
pub mod StateOf
pub mod Judging
pub mod Standing
pub mod ListWalk
pub mod Outcome
pub mod OutcomeLaws
