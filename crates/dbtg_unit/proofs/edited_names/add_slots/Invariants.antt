use Rattle.std.proofs.Common.{◌≡◌, ◌++◌, drop}
use Rattle.std.specs.Prelude.{map}
use Rattle.dbtg_unit.specs.Database.State.CellNames.{slot_name}
use Rattle.dbtg_unit.proofs.edited_names.add_slots.Given as goal

abbrev pub invariant-loop-key : goal.invariant-loop-key
invariant-loop-key l = l.names.items ++ map slot_name (drop l.key-index l.gone) ≡ l.fn.names.items ++ map slot_name l.gone
