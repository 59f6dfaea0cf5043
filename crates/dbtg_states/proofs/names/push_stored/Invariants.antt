use Rattle.std.proofs.Common.{◌≡◌, ◌++◌, take}
use Rattle.std.specs.Prelude.{option_to_list}
use Rattle.std.specs.List.{flat_map}
use Rattle.dbtg_unit.specs.Database.Laws.Replay.{entries_of}
use Rattle.dbtg_states.specs.Named.{stored_by}
use Rattle.dbtg_states.proofs.names.push_stored.Given as goal

abbrev pub invariant-loop-entry : goal.invariant-loop-entry
invariant-loop-entry l = l.keys.items ≡ l.initial.keys.items ++ flat_map (λ e. stored_by e.statement (option_to_list e.answer.key)) (entries_of l.unit (take l.entry-index l.history))
