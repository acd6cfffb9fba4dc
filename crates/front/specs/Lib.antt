-- An edge list made ready for the sweep.
pub mod Ranking
pub mod RankLaws
