use Rattle.std.proofs.Common.{◌≡◌, drop, eqb}
use Rattle.std.specs.List.{list_any}
use Rattle.dbtg_unit.proofs.changes.names_one.Given as goal

abbrev pub invariant-loop-item : goal.invariant-loop-item
invariant-loop-item l = list_any (λ i. list_any (λ c. eqb c.item i) l.changes) (drop l.item-index l.items) ≡ list_any (λ i. list_any (λ c. eqb c.item i) l.changes) l.items
