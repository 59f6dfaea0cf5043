use Rattle.std.proofs.Common.{◌≡◌, ◌++◌, drop, length}
use Rattle.dbtg_step.specs.Core.Parts.{machine}
use Rattle.dbtg_page.specs.Rows.{rows_of_moves}
use Rattle.dbtg_page.proofs.page.push_each_move.Given as goal

abbrev pub invariant-loop-one : goal.invariant-loop-one
invariant-loop-one l = record {
  text : l.out.items ++ rows_of_moves l.setting.events l.shown.items (machine l.core) (drop l.one-index l.moves)
      ≡ l.initial.out.items ++ rows_of_moves l.setting.events l.initial.shown.items (machine l.initial.core) l.moves;
  schema : l.core.schema ≡ l.setting.schema.now;
  units : length l.core.runners ≡ l.setting.units;
}
