use Rattle.std.proofs.Common.{◌≡◌, ◌++◌, drop, length, map, true}
use Rattle.std.specs.Prelude.{reverse}
use Rattle.std.specs.Vec.{vec_items}
use Rattle.dbtg_unit.specs.Database.Laws.Replaying.{statements_of}
use Rattle.dbtg_step.specs.Laws.{scripts_fit}
use Rattle.dbtg_step.specs.Inside.Turns.{statements_in_turn}
use Rattle.dbtg_step.proofs.running.make_each_turn.Given as goal

-- the statements that are made and those of the turns that are left are the statements of all turns
abbrev pub invariant-loop-unit : goal.invariant-loop-unit
invariant-loop-unit l = record {
  same : l.database ≡ record l.initial.database { history = l.database.history };
  made : statements_of l.database.history ++ statements_in_turn (map (λ v. reverse (vec_items v)) l.left.items) (drop l.unit-index l.turns)
      ≡ statements_of l.initial.database.history ++ statements_in_turn (map (λ v. reverse (vec_items v)) l.initial.left.items) l.turns;
  fitting : scripts_fit l.initial.database.schema (map (λ v. reverse (vec_items v)) l.left.items) ≡ true;
  count : length l.left.items ≡ l.initial.database.units;
}
