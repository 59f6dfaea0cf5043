use Rattle.std.proofs.Common.{◌≡◌, drop}
use Rattle.std.specs.List.{list_any}
use Rattle.dbtg_cells.specs.Keys.{key_eq}
use Rattle.dbtg_refusal.specs.Inside.Imaged.{live_in}
use Rattle.dbtg_refusal.proofs.imaged.live_in.Given as goal

abbrev pub invariant-loop-entry : goal.invariant-loop-entry
invariant-loop-entry l = list_any (λ e. key_eq l.key e.0) (drop l.entry-index l.entry-items) ≡ live_in l.image l.key
