use Rattle.std.proofs.Common.{◌≡◌, drop}
use Rattle.std.specs.List.{find}
use Rattle.dbtg_cells.specs.Keys.{key_eq}
use Rattle.dbtg_refusal.proofs.imaged.items_in.Given as goal

abbrev pub invariant-loop-entry : goal.invariant-loop-entry
invariant-loop-entry l = find (λ e. key_eq l.key e.0) (drop l.entry-index l.entry-items) ≡ find (λ e. key_eq l.key e.0) l.image.records
