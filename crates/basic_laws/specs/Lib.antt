-- Small laws that stand once: tests on numbers as truth values, lists, signed numbers, tables of answers, binary digits, and edges.
pub mod Tests
pub mod Lists
pub mod Sums
pub mod Signed
pub mod Steps
pub mod Tables
pub mod Stores
pub mod Bits
pub mod Fours
pub mod Sound
