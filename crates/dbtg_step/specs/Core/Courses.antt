-- What is kept of a statement's needs from one need to the next: what is settled about them, as asking from the beginning would settle it.
use Rattle.std.specs.Prelude.{ℕ, ◌≡◌, not, ◌==◌, true, false, Option, Some, None, is_some, ⊤}
use Rattle.std.specs.List.{find, list_any}
use Rattle.dbtg_schema.specs.Lists.{Lists}
use Rattle.dbtg_unit.specs.declared.statement.Statement.{Statement}
use Rattle.dbtg_unit.specs.declared.statement.Statement.TheVariants.{Delete}
use Rattle.dbtg_unit.specs.declared.unit.Unit.{Unit}
use Rattle.dbtg_unit.specs.Database.Statements.Checks.{refused_at_once}
use Rattle.dbtg_unit.specs.Hands.Hands.{Hands}
use Rattle.dbtg_unit.specs.Hands.Needs.{areas_in_order}
use Rattle.dbtg_erase.specs.Course.{IsCourseOfCurrent}
use Rattle.dbtg_erase.specs.declared.course.Course.{Course as CellCourse}
use Rattle.dbtg_step.specs.declared.course.Course.{Course}
use Rattle.dbtg_step.specs.declared.course.Course.TheVariants.{Refused, Wants, HasAreas}

-- how far a DELETE has come with its cells fits what is held; for other statements nothing is required
abbrev pub CellsMatch : Lists → ℕ → Hands → Unit → Statement → Option CellCourse → Type 0
CellsMatch schema capacity hands unit (Delete option) course = IsCourseOfCurrent schema capacity hands unit option course
CellsMatch schema capacity hands unit _ course = ⊤

-- no check without cells refuses the statement, and until area a is held, it is the first that is not
pub record IsWanted (schema : Lists) (capacity : ℕ) (hands : Hands) (unit : Unit) (x : Statement) (a : ℕ) : Type 0 where
  pub passed : refused_at_once schema capacity unit x ≡ None
  pub next : list_any (λ b. b == a) hands.areas ≡ false → find (λ c. not (list_any (λ b. b == c) hands.areas)) (areas_in_order schema unit x) ≡ Some a

-- no check without cells refuses the statement, and all its areas are held
pub record IsAtCells (schema : Lists) (capacity : ℕ) (hands : Hands) (unit : Unit) (x : Statement) : Type 0 where
  pub passed : refused_at_once schema capacity unit x ≡ None
  pub areas : find (λ a. not (list_any (λ b. b == a) hands.areas)) (areas_in_order schema unit x) ≡ None

-- what is kept fits what is held; nothing kept always does
abbrev pub CourseMatches : Lists → ℕ → Hands → Unit → Statement → Option Course → Type 0
CourseMatches schema capacity hands unit x None = ⊤
CourseMatches schema capacity hands unit x (Some Refused) = is_some (refused_at_once schema capacity unit x) ≡ true
CourseMatches schema capacity hands unit x (Some (Wants a)) = IsWanted schema capacity hands unit x a
CourseMatches schema capacity hands unit x (Some (HasAreas course)) = IsAtCells schema capacity hands unit x × CellsMatch schema capacity hands unit x course
