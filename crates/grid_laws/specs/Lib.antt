-- The plane counted in steps from the least coordinate: laws over natural numbers.
pub mod Plane
pub mod Covering
pub mod LineLaws
pub mod OneLine
pub mod Places
pub mod Compression
pub mod Sums
pub mod AreaLaws
pub mod Wrap
pub mod AsLayer
pub mod Beside
pub mod Pieces
pub mod ClosedTest
pub mod Scan
pub mod Points
