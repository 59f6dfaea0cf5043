use Rattle.std.proofs.Common.{◌≡◌, ◌++◌, length, map}
use Rattle.dbtg_page.specs.Changes.{parts}
use Rattle.dbtg_page.proofs.changes.parts_of.Given as goal

abbrev pub invariant-loop-part : goal.invariant-loop-part
invariant-loop-part l = map (λ p. p.now) l.all.items ++ parts l.mark l.rest ≡ parts l.mark l.text

abbrev pub decreases-loop-part : goal.decreases-loop-part
decreases-loop-part l = length l.rest
