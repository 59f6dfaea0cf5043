use Rattle.std.proofs.Common.{◌≡◌, List, drop, length}
use Rattle.dbtg_unit.specs.declared.moves.Move.{Move}
use Rattle.dbtg_step.specs.Core.Parts.{machine}
use Rattle.dbtg_page.specs.Rows.{run_rows}
use Rattle.dbtg_page.proofs.page.pass.Given as goal

abbrev pub invariant-loop-one : goal.invariant-loop-one
invariant-loop-one l = record {
  run : (moves : List Move) → run_rows l.setting.events (machine l.core) (drop l.one-index l.before) moves
      ≡ run_rows l.setting.events (machine l.initial.core) l.before moves;
  schema : l.core.schema ≡ l.setting.schema.now;
  units : length l.core.runners ≡ l.setting.units;
}
