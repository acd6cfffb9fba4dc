-- Judging an edge list: the rows that it decides, that there is one answer, and the laws by which it is shown.
pub mod Answering
pub mod Refusals
