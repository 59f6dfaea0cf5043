use Rattle.std.proofs.Common.{◌≡◌, ◌++◌, drop}
use Rattle.dbtg_step.specs.Core.Whole.{state_now}
use Rattle.dbtg_refusal.specs.Said.{said_from, said_of_history}
use Rattle.dbtg_refusal.proofs.said.said_of_entries.Given as goal

abbrev pub invariant-loop-entry : goal.invariant-loop-entry
invariant-loop-entry l = record {
  schema : l.database.schema ≡ l.initial.database.schema;
  capacity : l.database.capacity ≡ l.initial.database.capacity;
  units : l.database.units ≡ l.initial.database.units;
  said : l.said.items ++ said_from l.database.schema l.database.capacity (state_now l.database) (drop l.entry-index l.history) ≡ said_of_history l.schema l.initial.database.capacity l.initial.database.units l.history;
}
