-- Each state keeps a rank. There are fewer and fewer states to go to.
use Rattle.std.proofs.Common.{◌≡◌, length}
use Rattle.dbtg_rounds.proofs.parts.guess_ranks.Given as goal

abbrev pub invariant-loop-last : goal.invariant-loop-last
invariant-loop-last l = length l.ranks.items ≡ l.fn.graph.states

abbrev pub decreases-loop-last : goal.decreases-loop-last
decreases-loop-last l = length l.order.items
