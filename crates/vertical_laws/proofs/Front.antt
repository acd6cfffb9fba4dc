-- The laws, by name, each with what it says in a line. Nothing is stated here: each is stated and proved where its line names it.

-- THE THEOREM: bucketed by x and taken in pairs, the ends of a result's horizontal records are its vertical records
pub use Rattle.vertical_laws.proofs.Theorem.{verticals_of, result_verticals, result_is}
-- in steps, and by ranks
pub use Rattle.vertical_laws.proofs.PlaneTips.{verticals_are}
pub use Rattle.vertical_laws.proofs.Ranked.{ranked, verticals_ranked}
-- THE ENDS AT x are those of the vertical records at x, in order; of each pair one is a `from`, the other a `to`
pub use Rattle.vertical_laws.proofs.PlaneTips.{ends_at, all_opposed}
-- AS MANY: as many verticals as horizontals; record k is made of the ends 2k and 2k + 1
pub use Rattle.vertical_laws.proofs.Theorem.{verticals_many}
pub use Rattle.vertical_laws.specs.Theorem.{pairs_at}
-- A RUNNING START for each x puts each end at its number, no two at one, and leaves none out
pub use Rattle.vertical_laws.proofs.Numbered.{numbered, number_less, number_one, number_found, in_pair}
-- EACH END STORED STRAIGHT INTO ITS RECORD: a loop's start, turn and end
pub use Rattle.vertical_laws.proofs.Placing.{place_start, place_step, place_done}
-- THE HORIZONTALS BY RANKS of a result: their ends are as that loop wants them, and make the vertical records of the result
pub use Rattle.vertical_laws.specs.Whole.{Horizontals}
pub use Rattle.vertical_laws.proofs.Whole.{ends_ranked, uprights_ranked, uprights_many}
-- THE SWEEP'S WORDS: a sweep with the table 0, 1, 2, .. in place of x makes the horizontals by ranks
pub use Rattle.vertical_laws.specs.Table.{table_ranks, table_low, table_horizontals}
