-- What the readers' answers stand for.
pub mod Pieces
