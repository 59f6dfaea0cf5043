use Rattle.std.proofs.Common.{◌≡◌, ◌++◌, drop}
use Rattle.std.specs.Prelude.{map}
use Rattle.dbtg_unit.proofs.edited_names.add_names.Given as goal

abbrev pub invariant-loop-edit : goal.invariant-loop-edit
invariant-loop-edit l = l.names.items ++ map (λ e. e.name) (drop l.edit-index l.edits) ≡ l.fn.names.items ++ map (λ e. e.name) l.edits
