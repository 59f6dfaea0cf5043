use Rattle.std.proofs.Common.{◌≡◌, ◌-◌}
use Rattle.dbtg_unit.specs.declared.limits.TheConstants.{MOST_STATEMENTS}
use Rattle.dbtg_going.specs.Goings.{IsAt}
use Rattle.dbtg_run.specs.UnitView.{BelongsTo}
use Rattle.dbtg_threading.specs.Inside.Gone.{AreInTurn}
use Rattle.dbtg_threading.proofs.unit.go_by.Given as goal

abbrev pub invariant-loop-statement : goal.invariant-loop-statement
invariant-loop-statement g l = record {
  belongs : BelongsTo l.db l.unit;
  number : l.unit.unit.number ≡ l.initial.unit.unit.number;
  at : IsAt l.db.schema l.program l.unit.journal l.member;
  in_turn : AreInTurn l.db.schema l.program l.unit.journal;
}

abbrev pub decreases-loop-statement : goal.decreases-loop-statement
decreases-loop-statement g l = MOST_STATEMENTS - l.member.made
