-- What the readers and the writer of numbers answer.
pub mod Reading
