use Rattle.std.proofs.Common.{◌≡◌, drop}
use Rattle.dbtg_cells.specs.Keys.{picked, values_eq}
use Rattle.dbtg_refusal.proofs.duplicates.same_picked.Given as goal

abbrev pub invariant-loop-item : goal.invariant-loop-item
invariant-loop-item l = values_eq (picked (drop l.item-index l.numbers) l.one) (picked (drop l.item-index l.numbers) l.two) ≡ values_eq (picked l.numbers l.one) (picked l.numbers l.two)
