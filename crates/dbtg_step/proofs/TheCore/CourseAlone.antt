-- Where nothing is changed but how far a unit's statement has come, the core is as it was.
use Rattle.std.proofs.Common.{ℕ, zero, suc, ◌≡◌, ◌<◌, ◌≤◌, ◌-◌, List, [], ◌∷◌, Option, Some, None, map, length, slice_get, slice_set, refl, sym, ap, ◌∙◌, subst, arith}
use Rattle.std.specs.Prelude.{IfSome}
use Rattle.std.proofs.lemmas.List.{length-set}
use Rattle.std.proofs.lemmas.Option.{same_Some}
use Rattle.dbtg_schema.specs.Lists.{Lists}
use Rattle.dbtg_cells.proofs.Public.{there_is}
use Rattle.dbtg_unit.specs.declared.held.Need.{Need}
use Rattle.dbtg_unit.specs.declared.moves.Stepped.{Stepped}
use Rattle.dbtg_unit.specs.declared.statement.Statement.{Statement}
use Rattle.dbtg_unit.specs.Database.State.Base.{Database}
use Rattle.dbtg_unit.specs.Hands.Local.{Agrees}
use Rattle.dbtg_unit.specs.Hands.Needs.{need}
use Rattle.dbtg_step.specs.declared.course.Course.{Course}
use Rattle.dbtg_step.specs.declared.parts.Parts.{Parts}
use Rattle.dbtg_step.specs.declared.parts.UnitState.{UnitState}
use Rattle.dbtg_step.specs.declared.parts.StatementProgress.{StatementProgress}
use Rattle.dbtg_step.specs.Machine.Machine.{State}
use Rattle.dbtg_step.specs.Machine.Headline.{opening_of}
use Rattle.dbtg_step.specs.Machine.Network.{network}
use Rattle.dbtg_step.specs.Machine.NeedOrder.{HasItsAreas}
use Rattle.dbtg_step.specs.Core.Courses.{CourseMatches}
use Rattle.dbtg_step.specs.Core.Parts.{location_at, note_of, state_from, unit_state_of}
use Rattle.dbtg_step.specs.Inside.Parts.{state_of}
use Rattle.dbtg_step.specs.Inside.Stands.{StandsNeeding}
use Rattle.dbtg_step.specs.Inside.Events.{ChangesCourseAlone, IsStepped, IsWell, NeedsNext, RunnersFit, Tells, opening_for}
use Rattle.dbtg_step.proofs.TheCore.EventsShown.{unit_there, unit_written, written_fit}
use Rattle.dbtg_step.proofs.TheCore.NeedsShown.{needs_next}
use Rattle.dbtg_step.proofs.TheCore.QuitShown.{stayed}
use Rattle.dbtg_step.proofs.EachEvent.UnitLists.{map_set_same}

set_there : {X : Type 0} (xs : List X) (i : ℕ) (x y : X) → slice_get xs i ≡ Some x → slice_get (slice_set xs i y) i ≡ Some y
set_there [] i x y e = absurd (cc (e))
set_there (z ∷ xs) zero x y e = refl
set_there (z ∷ xs) (suc i) x y e = set_there xs i x y e

module _ (schema : Lists) (capacity u : ℕ) (old new : Parts) (r : UnitState) (numbered : 0 < u) (at : slice_get old.runners.items (u - 1) ≡ Some r) (course : Option Course)
    (table : new.table.items ≡ old.table.items) (history : new.history.items ≡ old.history.items) (runners : new.runners.items ≡ slice_set old.runners.items (u - 1) (record r { course = course })) where
  same_state : state_of schema capacity new ≡ state_of schema capacity old
  unfolding state_from
  same_state =
      let units : map (unit_state_of schema capacity) new.runners.items ≡ map (unit_state_of schema capacity) old.runners.items =
      ap (map (unit_state_of schema capacity)) (runners ∙ unit_written old.runners.items u (record r { course = course }) numbered) ∙ map_set_same (unit_state_of schema capacity) old.runners.items u r (record r { course = course }) (unit_there old.runners.items u r numbered at) refl in
      λ i. record { location = location_at schema capacity (table i); history = map note_of (history i); counter = length (history i); units = units i }

  same_count : length new.runners.items ≡ length old.runners.items
  same_count = ap length runners ∙ length-set old.runners.items (u - 1) (record r { course = course })

  -- a step from there is a step from where it was
  pub stepped_from : (result : Stepped) (after : Parts) → IsStepped schema capacity u result new after → IsStepped schema capacity u result old after
  stepped_from result after s = record {
    tells = subst (λ n. Tells schema capacity (opening_of schema capacity n) u result (state_of schema capacity old) (state_of schema capacity after)) same_count
        (subst (λ (q : State (network schema capacity)). Tells schema capacity (opening_for schema capacity new) u result q (state_of schema capacity after)) same_state s.tells);
    table = s.table ∙ ap length table;
    count = s.count ∙ same_count;
    runners = s.runners;
  }

  -- the parts are well where the course is right
  pub onward_well : IsWell schema capacity old → ((x : Statement) → slice_get r.script r.next ≡ Some x → CourseMatches schema capacity r.held r.unit x course) → IsWell schema capacity new
  onward_well well kept =
      let fits = well.runners (u - 1) r at in
      stayed schema capacity u old new well same_count (ap length table)
      (subst (RunnersFit schema capacity) (sym runners) (written_fit schema capacity old.runners.items (u - 1) (record r { course = course }) well.runners (record { settled = fits.settled; guesses = fits.guesses; course = λ w e t x is. kept x is })))
      same_state

  pub onward_there : slice_get new.runners.items (u - 1) ≡ Some (record r { course = course })
  onward_there = ap (λ (rs : List UnitState). slice_get rs (u - 1)) runners ∙ set_there old.runners.items (u - 1) r (record r { course = course }) at

  pub onward_stands : (w : StatementProgress) → StandsNeeding r w → (n : UnitState) → slice_get new.runners.items (u - 1) ≡ Some n → StandsNeeding n w
  onward_stands w s n e =
      subst (λ (q : UnitState). StandsNeeding q w) (same_Some _ n (sym onward_there ∙ e))
      (record { before = record { left = s.before.left; progress = s.before.progress; ticket = s.before.ticket }; turned = s.turned })

  -- what the unit needs next is so there
  pub onward_needs : IsWell schema capacity new → (w : StatementProgress) → StandsNeeding r w → (n : Need) → ((x : Statement) (db : Database) → slice_get r.script r.next ≡ Some x → Agrees schema capacity db r.held r.unit → n ≡ need schema capacity db r.unit r.held x) → NeedsNext schema capacity new u w n
  onward_needs well w s n h = let x = there_is r.script r.next s.before.left in needs_next schema capacity u new (record r { course = course }) well numbered onward_there w x.0 n x.1 (λ db agrees. h x.0 db x.1 agrees)

  pub onward_areas : ((x : Statement) → slice_get r.script r.next ≡ Some x → HasItsAreas schema r.unit r.held x) → (n : UnitState) (x : Statement) → slice_get new.runners.items (u - 1) ≡ Some n → slice_get n.script n.next ≡ Some x → HasItsAreas schema n.unit n.held x
  onward_areas h n x e is = subst (λ (q : UnitState). slice_get q.script q.next ≡ Some x → HasItsAreas schema q.unit q.held x) (same_Some _ n (sym onward_there ∙ e)) (h x) is

pub some_also : {T : Type 0} (o : Option T) (P Q : T → Type 0) → ((t : T) → P t → Q t) → IfSome o P → IfSome o Q
some_also None P Q f h = tt
some_also (Some t) P Q f h = f t h

-- the same of whichever unit is there
pub course_alone : (u : ℕ) (old new : Parts) (r n : UnitState) → slice_get old.runners.items (u - 1) ≡ Some r → new.table.items ≡ old.table.items → new.history.items ≡ old.history.items → new.runners.items ≡ slice_set old.runners.items (u - 1) n → n ≡ record r { course = n.course } →
    ChangesCourseAlone u old new
course_alone u old new r n at table history runners rest = record {
  table = table;
  history = history;
  runners = λ s there. (let same : r ≡ s = same_Some r s (sym at ∙ there) in (n.course, runners ∙ ap (slice_set old.runners.items (u - 1)) (rest ∙ ap (λ (q : UnitState). record q { course = n.course }) same)));
}

-- a step from where only that is changed is a step from where it was
module _ (schema : Lists) (capacity u : ℕ) (old new : Parts) (numbered : 0 < u) (within : u ≤ length old.runners.items) (alone : ChangesCourseAlone u old new) where
  abbrev there : (r : UnitState) × (slice_get old.runners.items (u - 1) ≡ Some r)
  there = there_is old.runners.items (u - 1) (omega (arith, within, numbered))

  pub alone_within : u ≤ length new.runners.items
  alone_within =
      let changed = alone.runners there.0 there.1 in
      subst (λ n. u ≤ n) (sym (same_count schema capacity u old new there.0 numbered there.1 changed.0 alone.table alone.history changed.1)) within

  pub stepped_alone : (result : Stepped) (after : Parts) → IsStepped schema capacity u result new after → IsStepped schema capacity u result old after
  stepped_alone =
      let changed = alone.runners there.0 there.1 in
      stepped_from schema capacity u old new there.0 numbered there.1 changed.0 alone.table alone.history changed.1
