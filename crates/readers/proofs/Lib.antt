-- What the proofs of several functions use, and that pieces are equal.
pub mod Pieces
pub mod OnePiece
