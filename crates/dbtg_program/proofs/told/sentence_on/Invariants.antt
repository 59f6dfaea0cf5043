use Rattle.std.proofs.Common.{◌≡◌, ◌==◌, drop, map}
use Rattle.std.specs.List.{position_from}
use Rattle.dbtg_program.specs.Inside.Views.{view_holding}
use Rattle.dbtg_program.proofs.told.sentence_on.Given as goal

abbrev pub invariant-loop-i : goal.invariant-loop-i
invariant-loop-i l = position_from (λ s. s.number == l.line) l.i (map view_holding (drop l.i l.sentences)) ≡ position_from (λ s. s.number == l.line) 0 (map view_holding l.sentences)
