-- States that were ruled out so far leave their rank.
use Rattle.std.proofs.Common.{◌⊎◌, ℕ}
use Rattle.dbtg_rounds.specs.Inside.Reaching.{IsIn}
use Rattle.dbtg_rounds.specs.Inside.Ruling.{LeavesRank}
use Rattle.dbtg_rounds.proofs.ruling.rule_out.Given as goal

abbrev pub invariant-loop-edge : goal.invariant-loop-edge
invariant-loop-edge l = (i : ℕ) → IsIn l.ruled i → IsIn l.initial.ruled i ⊎ LeavesRank l.ranks l.edges l.unit l.left i
