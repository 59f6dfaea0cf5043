use Rattle.std.proofs.Common.{◌≡◌, ◌≤◌, length}
use Rattle.dbtg_schema.specs.Texts.Words.{words}
use Rattle.dbtg_schema.proofs.scanner.Scanner.scan.Given as goal

abbrev pub invariant-loop-first : goal.invariant-loop-first
invariant-loop-first l = record { same : words l.self.line l.self.rest.now ≡ words l.initial.self.line l.initial.self.rest.now; shorter : length l.self.rest.now ≤ length l.initial.self.rest.now }

abbrev pub decreases-loop-first : goal.decreases-loop-first
decreases-loop-first l = length l.self.rest.now
