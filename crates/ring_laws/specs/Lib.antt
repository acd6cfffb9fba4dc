-- Laws over the meaning of ring lists and mask files.
pub mod Groups
pub mod Differences
pub mod Neighbours
pub mod Beginnings
pub mod Forms
pub mod Meet
pub mod Calls
pub mod Trips
