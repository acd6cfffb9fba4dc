pub mod Pending
pub mod LineLaws
