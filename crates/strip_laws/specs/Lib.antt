-- The edges, words and strips of which it is shown that the plane by ranks is the plane in steps: that is in proofs/.
pub mod Ordered
pub mod Ranked
pub mod Ready
pub mod Found
