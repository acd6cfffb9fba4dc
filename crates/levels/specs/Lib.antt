-- The horizontals of one line.
pub mod Line
pub mod LevelLaws
