-- The laws that rest on which words have y at most j: one place more of the sweep.
pub mod Steps
