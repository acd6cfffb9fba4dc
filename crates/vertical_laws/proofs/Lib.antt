-- The laws that rest on what an end, a pair, a bucket, a number and a point's ends are. `Theorem` has the law.
pub mod LineTips
pub mod PlaneTips
pub mod Theorem
pub mod Ranked
pub mod Numbered
pub mod Placing
pub mod Whole
pub mod Examples
pub mod Front
