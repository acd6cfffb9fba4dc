-- The promises of the calls on ring lists, each a line of proof, and the examples.
pub mod Promises
pub mod Examples
