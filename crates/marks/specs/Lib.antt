-- Many edges at one place.
pub mod Marks
pub mod MarkLaws
pub mod MarkMore
pub mod SumReady
pub mod Fresh
pub mod AllSummed
