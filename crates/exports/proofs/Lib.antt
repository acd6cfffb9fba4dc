-- What is proved of the promise of `laukavesp_draw`: one answer, and the table of its structs.
pub mod Drawn
