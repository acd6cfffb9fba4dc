-- What the proofs of several functions use, and that verdicts are equal.
pub mod Reading
pub mod OneVerdict
