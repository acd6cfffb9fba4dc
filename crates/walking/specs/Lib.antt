-- A walk: what run and area answer, from one sweep.
pub mod Walks
pub mod OneWalk
pub mod Working
pub mod WalkLaws
