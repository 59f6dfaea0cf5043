-- What is kept of a statement's needs is right: nothing kept always is, and what is kept stays so while more is taken.
use Rattle.std.proofs.Common.{ℕ, ◌≡◌, Bool, true, false, not, cond, List, [], ◌∷◌, ◌++◌, Option, Some, None, refl, sym, ap, ◌∙◌, true≢false}
use Rattle.std.specs.Prelude.{is_some, ◌==◌, ◌||◌, if◌then◌else◌}
use Rattle.std.specs.List.{find, list_any}
use Rattle.std.proofs.lemmas.Option.{same_Some}
use Rattle.std.proofs.lemmas.List.Folds.{list_any-append}
use Rattle.dbtg_schema.specs.Lists.{Lists}
use Rattle.dbtg_cells.specs.declared.cell.Cell.{Cell}
use Rattle.dbtg_cells.specs.declared.name.CellName.{CellName}
use Rattle.dbtg_unit.specs.declared.held.Need.TheVariants.{Area, Ready}
use Rattle.dbtg_unit.specs.declared.statement.Statement.{Statement}
use Rattle.dbtg_unit.specs.declared.statement.Statement.TheVariants.{Delete}
use Rattle.dbtg_unit.specs.declared.unit.Cause.{Cause}
use Rattle.dbtg_unit.specs.declared.unit.Unit.{Unit}
use Rattle.dbtg_unit.specs.Database.State.Base.{Database}
use Rattle.dbtg_unit.specs.Database.Statements.Checks.{refused_at_once}
use Rattle.dbtg_unit.specs.Hands.Hands.{Hands}
use Rattle.dbtg_unit.specs.Hands.Needs.{areas_in_order, cells_of, is_stale, need, need_of_cells, next_of}
use Rattle.dbtg_cells.specs.Names.{name_eq}
use Rattle.dbtg_erase.specs.declared.course.Course.{Course as CellCourse}
use Rattle.dbtg_erase.proofs.Public.{kept_stays, nothing_kept, one_more_cell, same_cells}
use Rattle.dbtg_step.specs.declared.course.Course.{Course}
use Rattle.dbtg_step.specs.declared.course.Course.TheVariants.{Refused, Wants, HasAreas}
use Rattle.dbtg_step.specs.Core.Courses.{CellsMatch, CourseMatches}
use Rattle.dbtg_step.specs.Inside.Courses.{HasMore}

-- WHAT HAS MORE THAN WHAT

-- with one area more
pub more_by_area : (hands hands' : Hands) (a : ℕ) → hands' ≡ record hands { areas = hands.areas ++ a ∷ [] } → HasMore hands hands'
more_by_area hands hands' a is = record {
  areas = λ b there. ap (λ (h : Hands). list_any (λ c. c == b) h.areas) is ∙ list_any-append (λ c. c == b) hands.areas (a ∷ []) ∙ ap (λ t. t || list_any (λ c. c == b) (a ∷ [])) there;
  cells = same_cells hands hands' (ap (λ (h : Hands). h.cells) is);
}

-- with one cell more
pub more_by_cell : (hands hands' : Hands) (e : CellName × Cell) → hands' ≡ record hands { cells = hands.cells ++ e ∷ [] } → HasMore hands hands'
more_by_cell hands hands' e is = record {
  areas = λ b there. ap (λ (h : Hands). list_any (λ c. c == b) h.areas) is ∙ there;
  cells = one_more_cell hands hands' e (ap (λ (h : Hands). h.cells) is);
}

-- none is left to take where none was left before
none_left : (areas areas' : List ℕ) → ((a : ℕ) → list_any (λ b. b == a) areas ≡ true → list_any (λ b. b == a) areas' ≡ true) → (wanted : List ℕ) → find (λ a. not (list_any (λ b. b == a) areas)) wanted ≡ None → find (λ a. not (list_any (λ b. b == a) areas')) wanted ≡ None
none_left areas areas' more [] e = refl
none_left areas areas' more (a ∷ wanted) e = by (list_any (λ b. b == a) areas) refl (none_left areas areas' more wanted)
  where
    by : (t : Bool) → list_any (λ b. b == a) areas ≡ t → (find (λ c. not (list_any (λ b. b == c) areas)) wanted ≡ None → find (λ c. not (list_any (λ b. b == c) areas')) wanted ≡ None) → find (λ c. not (list_any (λ b. b == c) areas')) (a ∷ wanted) ≡ None
    by true there rest =
        ap (λ t. cond (not t) (Some a) (find (λ c. not (list_any (λ b. b == c) areas')) wanted)) (more a there)
        ∙ rest (sym (ap (λ t. cond (not t) (Some a) (find (λ c. not (list_any (λ b. b == c) areas)) wanted)) there) ∙ e)
    by false gone rest = let first : Some a ≡ None = sym (ap (λ t. cond (not t) (Some a) (find (λ c. not (list_any (λ b. b == c) areas)) wanted)) gone) ∙ e in absurd (cc (first))

-- what is not held now was not before
not_before : (areas areas' : List ℕ) → ((a : ℕ) → list_any (λ b. b == a) areas ≡ true → list_any (λ b. b == a) areas' ≡ true) → (a : ℕ) → list_any (λ b. b == a) areas' ≡ false → list_any (λ b. b == a) areas ≡ false
not_before areas areas' more a gone = by (list_any (λ b. b == a) areas) refl
  where
    by : (t : Bool) → list_any (λ b. b == a) areas ≡ t → list_any (λ b. b == a) areas ≡ false
    by true there = absurd (true≢false (sym (more a there) ∙ gone))
    by false gone = gone

-- the first that was left is so still, as long as it is not held
next_still : (areas areas' : List ℕ) → ((a : ℕ) → list_any (λ b. b == a) areas ≡ true → list_any (λ b. b == a) areas' ≡ true) → (a : ℕ) → list_any (λ b. b == a) areas' ≡ false → (wanted : List ℕ) → find (λ c. not (list_any (λ b. b == c) areas)) wanted ≡ Some a → find (λ c. not (list_any (λ b. b == c) areas')) wanted ≡ Some a
next_still areas areas' more a gone [] e = e
next_still areas areas' more a gone (c ∷ wanted) e = by (list_any (λ b. b == c) areas) refl (next_still areas areas' more a gone wanted)
  where
    by : (t : Bool) → list_any (λ b. b == c) areas ≡ t → (find (λ d. not (list_any (λ b. b == d) areas)) wanted ≡ Some a → find (λ d. not (list_any (λ b. b == d) areas')) wanted ≡ Some a) → find (λ d. not (list_any (λ b. b == d) areas')) (c ∷ wanted) ≡ Some a
    by true there rest =
        ap (λ t. cond (not t) (Some c) (find (λ d. not (list_any (λ b. b == d) areas')) wanted)) (more c there)
        ∙ rest (sym (ap (λ t. cond (not t) (Some c) (find (λ d. not (list_any (λ b. b == d) areas)) wanted)) there) ∙ e)
    by false left rest =
        let first : Some c ≡ Some a = sym (ap (λ t. cond (not t) (Some c) (find (λ d. not (list_any (λ b. b == d) areas)) wanted)) left) ∙ e in
        let same : c ≡ a = same_Some c a first in
        ap (λ t. cond (not t) (Some c) (find (λ d. not (list_any (λ b. b == d) areas')) wanted)) (ap (λ d. list_any (λ b. b == d) areas') same ∙ gone) ∙ first

module _ (schema : Lists) (capacity : ℕ) (hands : Hands) (unit : Unit) where
  -- nothing is kept
  pub no_course : (x : Statement) → CourseMatches schema capacity hands unit x None
  no_course x = tt

  -- nothing is kept of a DELETE's cells
  pub no_cells : (x : Statement) → CellsMatch schema capacity hands unit x None
  no_cells (Delete option) = nothing_kept schema capacity hands unit option
  no_cells _ = tt

  module _ (hands' : Hands) (more : HasMore hands hands') where
    cells_stay : (x : Statement) (course : Option CellCourse) → CellsMatch schema capacity hands unit x course → CellsMatch schema capacity hands' unit x course
    cells_stay (Delete option) course kept = kept_stays schema capacity hands hands' unit option course more.cells kept
    cells_stay _ course kept = tt

    -- more is held
    pub course_stays : (x : Statement) (course : Option Course) → CourseMatches schema capacity hands unit x course → CourseMatches schema capacity hands' unit x course
    course_stays x None kept = tt
    course_stays x (Some Refused) kept = kept
    course_stays x (Some (Wants a)) kept = record { passed = kept.passed; next = λ gone. next_still hands.areas hands'.areas more.areas a gone (areas_in_order schema unit x) (kept.next (not_before hands.areas hands'.areas more.areas a gone)) }
    course_stays x (Some (HasAreas course)) kept = (record { passed = kept.0.passed; areas = none_left hands.areas hands'.areas more.areas (areas_in_order schema unit x) kept.0.areas }, cells_stay x course kept.1)

-- WHAT IS SETTLED WITHOUT CELLS

module _ (schema : Lists) (capacity : ℕ) (db : Database) (hands : Hands) (unit : Unit) (x : Statement) where
  -- nothing is needed where the statement is refused at once
  pub refused_needs : is_some (refused_at_once schema capacity unit x) ≡ true → Ready ≡ need schema capacity db unit hands x
  unfolding need
  refused_needs e = sym (ap (λ b. if b then Ready else need_of_cells schema capacity db unit hands x) e)

  -- otherwise the first area
  pub area_needed : (a : ℕ) → refused_at_once schema capacity unit x ≡ None → find (λ b. not (list_any (λ c. c == b) hands.areas)) (areas_in_order schema unit x) ≡ Some a → Area a ≡ need schema capacity db unit hands x
  unfolding need
  area_needed a passes areas =
      sym (
      ap (λ (o : Option Cause). if is_some o then Ready else need_of_cells schema capacity db unit hands x) passes
      ∙ ap (λ o. next_of o (find (λ c. not (list_any (λ (e : CellName × Cell). name_eq c e.0) hands.cells)) (cells_of schema capacity db unit hands.guesses x)) (is_stale schema capacity db unit hands.guesses x)) areas
      )
