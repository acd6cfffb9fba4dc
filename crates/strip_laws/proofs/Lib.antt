-- The laws that rest on which columns are in a strip: the join, and what the sweep finds.
pub mod Ranked
pub mod Fresh
pub mod Found
pub mod Ready
