-- What is kept of a statement's needs, from one to the next.
use Rattle.std.proofs.Common.{◌≡◌, ℕ, Bool, true, false, [], ◌∷◌, ◌++◌, Option, sym, subst}
use Rattle.std.specs.Prelude.{MatchBool}
use Rattle.dbtg_schema.specs.Lists.{Lists}
use Rattle.dbtg_cells.specs.declared.cell.Cell.{Cell}
use Rattle.dbtg_cells.specs.declared.name.CellName.{CellName}
use Rattle.dbtg_unit.specs.declared.statement.Statement.{Statement}
use Rattle.dbtg_unit.specs.declared.unit.Unit.{Unit}
use Rattle.dbtg_unit.specs.Hands.Hands.{Hands}
use Rattle.dbtg_step.specs.declared.course.Course.{Course}
use Rattle.dbtg_step.specs.Inside.Courses.{HasMore}
use Rattle.dbtg_step.specs.Core.Courses.{CourseMatches}
use Rattle.dbtg_step.proofs.Public.{course_stays, more_by_area, more_by_cell}

-- what is kept matches the same unit with more held
pub course_goes_on : (schema : Lists) (capacity : ℕ) (hands hands' : Hands) (unit unit' : Unit) (x : Statement) (course : Option Course) → unit' ≡ unit → HasMore hands hands' → CourseMatches schema capacity hands unit x course → CourseMatches schema capacity hands' unit' x course
course_goes_on schema capacity hands hands' unit unit' x course same more kept =
    subst (λ (u : Unit). CourseMatches schema capacity hands' u x course) (sym same) (course_stays schema capacity hands unit hands' more x course kept)

-- where an area was taken, all is still held
pub all_with_area : (taken : Bool) (old new : Hands) (a : ℕ) (P Q : Type 0) → MatchBool taken ((new ≡ record old { areas = old.areas ++ a ∷ [] }) × P) Q → taken ≡ true → HasMore old new
all_with_area true old new a P Q is e = more_by_area old new a is.0
all_with_area false old new a P Q is e = absurd (cc (e))

-- and where a cell was taken
pub all_with_cell : (taken : Bool) (old new : Hands) (c : CellName) (Q : Type 0) → MatchBool taken ((x : Cell) × (new ≡ record old { cells = old.cells ++ (c, x) ∷ [] })) Q → taken ≡ true → HasMore old new
all_with_cell true old new c Q is e = more_by_cell old new (c, is.0) is.1
all_with_cell false old new c Q is e = absurd (cc (e))

-- where none was taken, all is as it was
pub same_without_area : (taken : Bool) (old new : Hands) (P Q : Type 0) → MatchBool taken P ((new ≡ old) × Q) → taken ≡ false → new ≡ old
same_without_area false old new P Q is e = is.0
same_without_area true old new P Q is e = absurd (cc (e))

pub same_without_cell : (taken : Bool) (old new : Hands) (P : Type 0) → MatchBool taken P (new ≡ old) → taken ≡ false → new ≡ old
same_without_cell false old new P is e = is
same_without_cell true old new P is e = absurd (cc (e))
