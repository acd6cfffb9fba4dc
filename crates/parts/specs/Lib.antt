-- One part of the result.
pub mod Parted
pub mod Emitted
