-- What callers know by the outcome.
use Rattle.std.specs.Prelude.{⊤, List, [], Option}
use Rattle.dbtg_cells.specs.declared.key.Owner.{Owner}
use Rattle.dbtg_unit.specs.declared.statement.Statement.{Statement}
use Rattle.dbtg_unit.specs.declared.unit.Answer.{Answer}
use Rattle.dbtg_unit.specs.declared.unit.Unit.{Unit}
use Rattle.dbtg_unit.specs.Hands.Making.{IsReady}
use Rattle.dbtg_run.specs.declared.outcome.Outcome.{Outcome}
use Rattle.dbtg_run.specs.declared.outcome.Outcome.TheVariants.{Done, Busy, Spent, NoMemory}
use Rattle.dbtg_run.specs.declared.view.About.{About}

-- if the statement was made, this holds for its answer
abbrev pub IfDone : Outcome → (Answer → Type 0) → Type 0
IfDone (Done a) P = P a
IfDone Busy P = ⊤
IfDone Spent P = ⊤
IfDone NoMemory P = ⊤

-- if the statement was not made, this holds
abbrev pub IfNotDone : Outcome → Type 0 → Type 0
IfNotDone (Done a) P = ⊤
IfNotDone Busy P = P
IfNotDone Spent P = P
IfNotDone NoMemory P = P

-- whatever the database and the guesses are, the statement needs no area and no cell
abbrev pub NeedsNoLatch : About → Unit → Statement → Type 0
NeedsNoLatch about unit x = (guesses : List (Option Owner)) → IsReady about.schema.value about.capacity unit (record { areas = []; cells = []; guesses = guesses }) x
