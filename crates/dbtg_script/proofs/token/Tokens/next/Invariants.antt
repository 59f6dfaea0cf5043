use Rattle.std.proofs.Common.{◌≡◌, ◌≤◌, false, length}
use Rattle.dbtg_script.specs.Tokens.{tokens}
use Rattle.dbtg_script.proofs.token.Tokens.next.Given as goal

abbrev pub invariant-loop-first : goal.invariant-loop-first
invariant-loop-first l = record { same : tokens false l.self.rest.now ≡ tokens false l.initial.self.rest.now; shorter : length l.self.rest.now ≤ length l.initial.self.rest.now }

abbrev pub decreases-loop-first : goal.decreases-loop-first
decreases-loop-first l = length l.self.rest.now
