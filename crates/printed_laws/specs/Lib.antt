-- What is shown of the printed text: decimal numbers, texts stored in a buffer, lines of plain numbers, how long they are, and what they tell.
pub mod Decimals
pub mod Stores
pub mod Lines
pub mod Lengths
pub mod Told
