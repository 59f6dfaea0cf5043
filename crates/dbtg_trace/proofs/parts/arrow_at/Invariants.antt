use Rattle.std.proofs.Common.{◌≡◌, ◌+◌, drop, false}
use Rattle.std.specs.Prelude.{option_map}
use Rattle.dbtg_trace.specs.Parts.{arrow_at}
use Rattle.dbtg_trace.proofs.parts.arrow_at.Given as goal

abbrev pub invariant-loop-at : goal.invariant-loop-at
invariant-loop-at l = option_map (λ n. l.at + n) (arrow_at l.inside (drop l.at l.text)) ≡ arrow_at false l.text
