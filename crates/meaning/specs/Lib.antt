-- What a reader must believe, in the words of document 01, and nothing else: definitions only, no law and no algorithm.
pub mod Numbers
pub mod Answers
pub mod Edges
pub mod Expression
pub mod Cells
pub mod Records
pub mod Area
pub mod Calls
pub mod Rings
pub mod MaskFile
pub mod Faults
pub mod Drawn
pub mod Printed
pub mod Program
