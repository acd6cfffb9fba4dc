-- Laws of the readers and the writer, by the tests that the code makes, and of what is handed on.
pub mod Groups
pub mod Handed
