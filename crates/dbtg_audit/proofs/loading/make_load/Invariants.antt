use Rattle.std.proofs.Common.{◌≡◌, ◌++◌, map, true}
use Rattle.std.specs.List.{list_all}
use Rattle.std.specs.Vec.Iter.{into_iter_items}
use Rattle.dbtg_unit.specs.Database.Statements.Fits.{fits}
use Rattle.dbtg_unit.specs.Database.Laws.Replaying.{statements_of}
use Rattle.dbtg_audit.proofs.loading.make_load.Given as goal

-- the statements that are made and those that are left are the script
abbrev pub invariant-loop-statement : goal.invariant-loop-statement
invariant-loop-statement l = record {
  same : l.database ≡ record l.initial.database { history = l.database.history };
  made : statements_of l.database.history ++ map (λ x. (l.unit, x)) (into_iter_items l.statement-iterator) ≡ statements_of l.initial.database.history ++ map (λ x. (l.unit, x)) l.fn.script;
  fitting : list_all (fits l.initial.database.schema) (into_iter_items l.statement-iterator) ≡ true;
}
