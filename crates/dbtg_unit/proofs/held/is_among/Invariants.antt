use Rattle.std.proofs.Common.{◌≡◌, drop, eqb}
use Rattle.std.specs.List.{list_any}
use Rattle.dbtg_unit.proofs.held.is_among.Given as goal

abbrev pub invariant-loop-a : goal.invariant-loop-a
invariant-loop-a l = list_any (λ a. eqb a l.area) (drop l.a-index l.areas) ≡ list_any (λ a. eqb a l.area) l.areas
