-- Tables of rising numbers.
pub mod Ranks
