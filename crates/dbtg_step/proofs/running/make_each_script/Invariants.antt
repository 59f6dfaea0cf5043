use Rattle.std.proofs.Common.{◌≡◌, ◌+◌, ◌++◌, length, true}
use Rattle.std.specs.Vec.Iter.{into_iter_items}
use Rattle.dbtg_unit.specs.Database.Laws.Replaying.{statements_of}
use Rattle.dbtg_step.specs.Laws.{scripts_fit}
use Rattle.dbtg_step.specs.Core.Serial.{in_turn_from}
use Rattle.dbtg_step.proofs.running.make_each_script.Given as goal

-- the scripts that are made and those that are left are all scripts
abbrev pub invariant-loop-script : goal.invariant-loop-script
invariant-loop-script l = record {
  same : l.database ≡ record l.initial.database { history = l.database.history };
  made : statements_of l.database.history ++ in_turn_from (l.before + 1) (into_iter_items l.script-iterator) ≡ statements_of l.initial.database.history ++ in_turn_from 1 l.fn.scripts;
  fitting : scripts_fit l.initial.database.schema (into_iter_items l.script-iterator) ≡ true;
  count : l.before + length (into_iter_items l.script-iterator) ≡ length l.fn.scripts;
}
