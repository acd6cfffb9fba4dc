-- The checked examples of document 01 that are proved, 1 to 10: one theorem.
--
--   checked    EVERY EXAMPLE IS RIGHT
use Rattle.std.specs.Prelude.{refl, [], pos}
use Rattle.std.proofs.Common.{arith}
use Rattle.meaning.specs.Numbers.{eq_z, step}
use Rattle.meaning.specs.Edges.{edges_of, covers, number, on, west, east, sound_edge, flat}
use Rattle.meaning.specs.Expression.{bytes, eval}
use Rattle.meaning.specs.Records.{numbers_of}
use Rattle.basic_laws.specs.Tests.{spans}
use Rattle.basic_laws.specs.Lists.{All, all_by}
use Rattle.basic_laws.specs.Steps.{lift}
use Rattle.basic_laws.specs.Sound.{lifted}
use Rattle.grid_laws.specs.Plane.{goes_west, goes_east, up_to_n, wests_n, easts_n, covers_n, inside_n, level_n, upright_n, line_at, line_over, each_of, kind_at, result_at, xs_of, ys_of, insert_if, insert, sorted}
use Rattle.grid_laws.specs.ClosedTest.{closed_test, closed_over, layers_of}
use Rattle.basic_laws.specs.Sums.{sum_of}
use Rattle.expression_laws.specs.Reader.{letter_at, read, reads}
use Rattle.expression_laws.specs.Judging.{answer_to}
use Rattle.mask_laws.specs.Examples.{stored_100, stored_limit, bytes_80_00, file_01, empty_file}
use Rattle.drawing.proofs.Examples.{example_10}
use Rattle.examples.specs.Shown.{fit, shown, levels}
use Rattle.examples.specs.Runs.{shaped, run_is, area_is, refusal_is, open_is}
use Rattle.examples.specs.Table.{Right, both, edge, table}

pub checked : All Right table
unfolding bytes fit sound_edge flat shaped edges_of closed_test closed_over layers_of all_by xs_of ys_of lifted lift number goes_west goes_east spans on west east shown levels numbers_of step up_to_n wests_n easts_n covers_n covers inside_n level_n upright_n line_at line_over each_of kind_at result_at insert_if insert sorted eq_z sum_of answer_to reads read letter_at eval
checked = (
  (run_is both refl refl (bytes "a*b") _ refl refl refl _ _ refl refl, area_is both refl refl (bytes "a*b") _ refl refl refl _ refl),
  (
    (run_is both refl refl (bytes "a+b") _ refl refl refl _ _ refl refl, area_is both refl refl (bytes "a+b") _ refl refl refl _ refl),
    (
      (run_is both refl refl (bytes "a^b") _ refl refl refl _ _ refl refl, area_is both refl refl (bytes "a^b") _ refl refl refl _ refl),
      (
        (run_is [] refl refl (bytes "a") _ refl refl refl _ _ refl refl, area_is [] refl refl (bytes "a") _ refl refl refl _ refl),
        (
          refusal_is both refl refl (bytes "!a") _ refl (λ z. omega arith),
          (
            refusal_is both refl refl (bytes "a+!a") _ refl (λ z. omega arith),
            (
              (36, area_is both refl refl (bytes "!a*b") _ refl refl refl 36 refl),
              (
                refusal_is both refl refl (bytes "()") _ refl (λ z. omega arith),
                (open_is (edge 0 0 10 0) refl refl 0 (pos 0) (λ z. omega arith) (bytes "a"), (stored_100, (stored_limit, (bytes_80_00, (file_01, (empty_file, (example_10, tt))))))),
              ),
            ),
          ),
        ),
      ),
    ),
  ),
)
