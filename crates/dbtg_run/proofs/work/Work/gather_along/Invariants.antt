use Rattle.std.proofs.Common.{◌≡◌, ◌⊎◌, ◌-◌, ◌<◌, false}
use Rattle.dbtg_unit.specs.Hands.Making.{IsReady}
use Rattle.dbtg_unit.specs.Hands.Needs.{is_stale}
use Rattle.dbtg_step.specs.Core.Courses.{CourseMatches}
use Rattle.dbtg_run.specs.Inside.LatchRule.{database_after}
use Rattle.dbtg_run.specs.Inside.Posed.{HoldsSo, turns_left}
use Rattle.dbtg_run.specs.Inside.Tries.{Suffice}
use Rattle.dbtg_run.specs.Inside.Works.{Belongs, IsAtWork, IsSameUnit}
use Rattle.dbtg_run.proofs.work.Work.gather_along.Given as goal

-- in a database of one unit, whose database does not change, one turn back is enough
abbrev pub invariant-needs : goal.invariant-needs
invariant-needs l = record {
  belongs : Belongs l.db l.self;
  same : IsSameUnit l.initial.self l.self;
  work : IsAtWork l.self;
  so : HoldsSo l.exclusive l.self.exclusive l.self.held;
  free : IsReady l.initial.self.about.schema.value l.initial.self.about.capacity l.initial.self.unit l.initial.self.held l.statement → IsReady l.self.about.schema.value l.self.about.capacity l.self.unit l.self.held l.statement;
  known : l.self.about.units ≡ 1 → 0 < l.initial.tries.given → (0 < l.tries.given - l.tries.vain) ⊎ (is_stale l.self.about.schema.value l.self.about.capacity (database_after l.self.about l.self.journal.items) l.self.unit l.self.held.guesses l.statement ≡ false);
  given : l.tries.given ≡ l.initial.tries.given;
  tries : Suffice l.tries;
  course : CourseMatches l.db.schema l.db.about.capacity l.self.held l.self.unit l.statement l.course;
}

abbrev pub decreases-needs : goal.decreases-needs
decreases-needs l = turns_left l.self.about (l.tries.given - l.tries.vain) l.self.held
