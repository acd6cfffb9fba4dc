-- `ranking::ranks_of` meets its contract. Assumes nothing.
use Rattle.ranking.proofs.Walk.{Ranking}
use Rattle.ranking.proofs.ranks_of.Given as goal

abbrev pub invariant-loop-w : goal.invariant-loop-w
invariant-loop-w l = Ranking l.base l.ws l.initial.values l.initial.ranks l.values l.ranks l.last l.k l.w-index
