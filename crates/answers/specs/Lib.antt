-- The answer of a call, as the paper has it.
pub mod Said
pub mod Told
