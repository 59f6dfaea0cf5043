use Rattle.std.proofs.Common.{◌≡◌, drop}
use Rattle.dbtg_unit.specs.Database.Statements.Effect.{changed_items}
use Rattle.dbtg_refusal.proofs.duplicates.changed.Given as goal

abbrev pub invariant-loop-change : goal.invariant-loop-change
invariant-loop-change l = changed_items (drop l.change-index l.changes) l.copies.items ≡ changed_items l.changes l.values
