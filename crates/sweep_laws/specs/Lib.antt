-- The horizontals that the sweep finds.
pub mod Lines
pub mod Steps
