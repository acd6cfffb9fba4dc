-- What the sweep finds is what the calls run and area promise.
pub mod Sounding
pub mod Ready
pub mod Joining
