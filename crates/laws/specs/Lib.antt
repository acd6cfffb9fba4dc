-- What is shown of the definitions of `meaning`, over whole numbers. `Front` names every law.
pub mod Front
pub mod Columns
pub mod View
pub mod Covered
pub mod Ends
pub mod Accepting
pub mod Listed
pub mod Ordered
pub mod OnlyOne
pub mod Parts
pub mod Areas
