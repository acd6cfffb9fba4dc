-- Records in a lent buffer.
pub mod Put
pub mod Emitting
