use Rattle.std.proofs.Common.{◌≡◌, drop, eqb}
use Rattle.std.specs.Prelude.{map}
use Rattle.std.specs.List.{list_any}
use Rattle.dbtg_unit.proofs.changes.names_item.Given as goal

abbrev pub invariant-loop-change : goal.invariant-loop-change
invariant-loop-change l =
    (list_any (λ d. eqb d.item l.item) (drop l.change-index l.changes) ≡ list_any (λ d. eqb d.item l.item) l.changes)
    × (list_any (λ i. eqb i l.item) (map (λ c. c.item) (drop l.change-index l.changes)) ≡ list_any (λ i. eqb i l.item) (map (λ c. c.item) l.changes))
