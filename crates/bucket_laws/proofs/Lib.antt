-- The laws that rest on the order `Lex`: what buckets keep of an order, and so what a pass does.
pub mod Stable
pub mod Passes
