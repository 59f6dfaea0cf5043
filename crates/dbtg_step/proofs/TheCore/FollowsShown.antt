-- What a statement does before its ticket is what the machine's unit does.
use Rattle.std.proofs.Common.{ℕ, zero, suc, ◌≡◌, ◌≢◌, ◌<◌, ◌-◌, Bool, true, false, eqb, ◌&&◌, ◌||◌, List, [], ◌∷◌, ◌++◌, Option, Some, None, drop, take, map, length, reverse, slice_get, slice_set, refl, sym, ap, ◌∙◌, subst, arith}
use Rattle.std.specs.Prelude.{nat_lt, option_map, unwrap_or}
use Rattle.std.specs.List.{list_any}
use Rattle.std.proofs.lemmas.Bool.Decides.{nat_tests}
use Rattle.std.proofs.lemmas.Option.{slice_get_within}
use Rattle.std.proofs.lemmas.List.{length-map, length-set}
use Rattle.std.proofs.lemmas.List.FromFn.{length-range_with_len}
use Rattle.dbtg_schema.specs.Lists.{Lists}
use Rattle.dbtg_schema.specs.Structure.{set_numbers}
use Rattle.dbtg_cells.specs.declared.key.DbKey.{DbKey}
use Rattle.dbtg_cells.specs.declared.key.Owner.{Owner}
use Rattle.dbtg_cells.specs.declared.name.CellName.{CellName}
use Rattle.dbtg_cells.specs.CellNumbers.{cell_number}
use Rattle.dbtg_cells.proofs.Public.{reverse_more, there_is}
use Rattle.dbtg_unit.specs.declared.held.Need.{Need}
use Rattle.dbtg_unit.specs.declared.held.Need.TheVariants.{Area, Take, Stale}
use Rattle.dbtg_unit.specs.declared.statement.Statement.{Statement}
use Rattle.dbtg_unit.specs.declared.unit.Unit.{Unit}
use Rattle.dbtg_unit.specs.Database.State.Base.{Database}
use Rattle.dbtg_unit.specs.Hands.Guesses.{with_owners}
use Rattle.dbtg_unit.specs.Hands.Hands.{Hands}
use Rattle.dbtg_unit.specs.Hands.Needs.{guessed_sets, wrong_owner}
use Rattle.dbtg_step.specs.declared.parts.Parts.{Parts}
use Rattle.dbtg_step.specs.declared.parts.CellLocation.{CellLocation}
use Rattle.dbtg_step.specs.declared.parts.CellLocation.TheVariants.{Home as AtHome, HeldBy as WithUnit}
use Rattle.dbtg_step.specs.declared.parts.UnitState.{UnitState}
use Rattle.dbtg_step.specs.declared.parts.StatementProgress.{StatementProgress}
use Rattle.dbtg_unit.specs.declared.moves.Stepped.{Stepped}
use Rattle.dbtg_unit.specs.declared.moves.Stepped.TheVariants.{Moved, Blocked, Idle, NoMemory}
use Rattle.dbtg_step.specs.Machine.SequentialDatabase.{NextNeed, NeedsArea, NeedsCell, StaleGuesses}
use Rattle.dbtg_step.specs.Machine.Machine.{HeldBy, State, held_areas, holds_exclusively, relocated}
use Rattle.dbtg_step.specs.Machine.Step.{any_but, any_other, conflicts, follows_need, is_nonempty, next_need, step, takes_area, takes_cell, IsBlocked, MovedTo}
use Rattle.dbtg_step.specs.Machine.Network.{network, next_need_of, noted_owners}
use Rattle.dbtg_step.specs.Inside.Courses.{HasMore}
use Rattle.dbtg_step.specs.Core.Courses.{CourseMatches}
use Rattle.dbtg_step.specs.Core.Parts.{held_cells_of, held_of, location_at, location_of, note_of, progress_of, shown_progress, state_from, unit_state_of}
use Rattle.dbtg_step.specs.Inside.Parts.{state_of}
use Rattle.dbtg_step.specs.Inside.Stands.{holds_against, StandsNeeding, progress_holds_against}
use Rattle.dbtg_step.specs.Inside.Leaves.{IsTaken}
use Rattle.dbtg_step.specs.Inside.Events.{IsStepped, IsWell, NeedsNext, RunnerFits, RunnersFit, database_of, noted_now, opening_for}
use Rattle.dbtg_step.specs.Core.Events.{WantsMemory}
use Rattle.dbtg_step.proofs.TheCore.CoursesMatch.{course_stays, more_by_area, more_by_cell, no_course}
use Rattle.dbtg_step.proofs.TheCore.EventsShown.{drop_found, found, length_held, moved_is, nonempty_length, staged_fits, unit_there, unit_written, written_fit}
use Rattle.dbtg_step.proofs.TheCore.NeedsShown.{any_reverse}
use Rattle.dbtg_step.proofs.TheCore.PlacesOfCells.{held_behind, location_placed, written_is}
use Rattle.dbtg_step.proofs.EachEvent.StepCases.{follows_area, follows_cell, step_follows}
use Rattle.dbtg_step.proofs.EachEvent.UnitLists.{map_set_same, set_same_at}

-- WHO HOLDS AN AREA

eq_turned : (a : ℕ) (xs : List ℕ) → list_any (eqb a) xs ≡ list_any (λ b. eqb b a) xs
eq_turned a [] = refl
eq_turned a (x ∷ xs) = let t : eqb a x ≡ eqb x a = grind (arith, nat_tests) in λ i. t i || eq_turned a xs i

or_grouped : (a b c : Bool) → a || (b || c) ≡ (a || b) || c
or_grouped true b c = refl
or_grouped false b c = refl

module _ (schema : Lists) (capacity : ℕ) (exclusive : Bool) (a : ℕ) where
  pub conflict_is : (r : UnitState) → conflicts (network schema capacity) exclusive a (unit_state_of schema capacity r) ≡ holds_against exclusive a r
  unfolding conflicts held_areas holds_exclusively
  conflict_is r = by r.progress
    where
      by : (o : Option StatementProgress) → list_any (eqb a) (held_areas (network schema capacity) (progress_of schema capacity r.held o)) && (exclusive || holds_exclusively (network schema capacity) (progress_of schema capacity r.held o)) ≡ progress_holds_against exclusive a r.held.areas o
      by None = refl
      by (Some w) = ap (λ b. b && (exclusive || w.exclusive)) (eq_turned a (reverse r.held.areas) ∙ any_reverse (λ b. eqb b a) r.held.areas)

  any_conflict_is : (runners : List UnitState) → list_any (conflicts (network schema capacity) exclusive a) (map (unit_state_of schema capacity) runners) ≡ list_any (holds_against exclusive a) runners
  any_conflict_is [] = refl
  any_conflict_is (r ∷ rs) = λ i. conflict_is r i || any_conflict_is rs i

  others_but : (i : ℕ) (runners : List UnitState) → any_but (conflicts (network schema capacity) exclusive a) i (map (unit_state_of schema capacity) runners) ≡ list_any (holds_against exclusive a) (take i runners) || list_any (holds_against exclusive a) (drop (suc i) runners)
  unfolding any_but
  others_but zero [] = refl
  others_but (suc i) [] = refl
  others_but zero (r ∷ rs) = any_conflict_is rs
  others_but (suc i) (r ∷ rs) = (λ j. conflict_is r j || others_but i rs j) ∙ or_grouped (holds_against exclusive a r) (list_any (holds_against exclusive a) (take i rs)) (list_any (holds_against exclusive a) (drop (suc i) rs))

  pub others_hold : (u : ℕ) (runners : List UnitState) → 0 < u → any_other (conflicts (network schema capacity) exclusive a) u (map (unit_state_of schema capacity) runners) ≡ list_any (holds_against exclusive a) (take (u - 1) runners) || list_any (holds_against exclusive a) (drop u runners)
  unfolding any_other
  others_hold zero runners l = absurd (omega arith)
  others_hold (suc i) runners l = let back : i ≡ suc i - 1 = omega arith in others_but i runners ∙ ap (λ k. list_any (holds_against exclusive a) (take k runners) || list_any (holds_against exclusive a) (drop (suc i) runners)) back

-- GUESSES

merged_length : (gs os : List (Option Owner)) → length gs ≡ length os → length (with_owners gs os) ≡ length gs
merged_length [] [] l = refl
merged_length [] (o ∷ os) l = absurd (omega arith)
merged_length (g ∷ gs) [] l = refl
merged_length (g ∷ gs) (o ∷ os) l = ap suc (merged_length gs os (omega arith))

-- after a turn back there is a guess for each set, as there was
pub noted_length : (schema : Lists) (capacity : ℕ) (db : Database) (unit : Unit) (x : Statement) (g : List (Option Owner)) → length g ≡ length schema.sets → length (noted_owners schema capacity db unit x g) ≡ length schema.sets
noted_length schema capacity db unit x g e = go unit.currency.run_unit
  where
    none_noted : (gs : List (Option Owner)) → length (with_owners gs []) ≡ length gs
    none_noted [] = refl
    none_noted (g ∷ gs) = refl

    go : (o : Option DbKey) → length (with_owners g (unwrap_or (option_map (λ k. map (wrong_owner schema capacity db g (guessed_sets schema unit x) k) (set_numbers schema)) o) [])) ≡ length schema.sets
    go None = none_noted g ∙ e
    go (Some k) =
        let each = length-map (set_numbers schema) (wrong_owner schema capacity db g (guessed_sets schema unit x) k) ∙ length-range_with_len 0 (length schema.sets) in
        merged_length g _ (e ∙ sym each) ∙ e

pub set_same : {X : Type 0} (xs : List X) (i : ℕ) (x : X) → slice_get xs i ≡ Some x → slice_set xs i x ≡ xs
set_same [] i x e = refl
set_same (z ∷ xs) zero x e = let same : x ≡ z = cc (e) in ap (λ v. v ∷ xs) same
set_same (z ∷ xs) (suc i) x e = ap (λ ys. z ∷ ys) (set_same xs i x e)

-- WHAT A STATEMENT DOES BEFORE ITS TICKET

module _ (schema : Lists) (capacity u : ℕ) (old : Parts) (r : UnitState) (well : IsWell schema capacity old) (numbered : 0 < u) (at : slice_get old.runners.items (u - 1) ≡ Some r) (w : StatementProgress) (s : StandsNeeding r w) where
  abbrev pub statement : (x : Statement) × (slice_get r.script r.next ≡ Some x)
  statement = there_is r.script r.next s.before.left

  pub follows : (n : Need) → NeedsNext schema capacity old u w n →
      step (network schema capacity) (opening_for schema capacity old) (state_of schema capacity old) u ≡ follows_need (network schema capacity) (opening_for schema capacity old) (state_of schema capacity old) u (unit_state_of schema capacity r) (shown_progress schema capacity r.held w) statement.0 (drop (suc r.next) r.script) (next_need_of (noted_now schema capacity old r statement.0) n)
  follows n needs =
      step_follows (network schema capacity) (opening_for schema capacity old) (state_of schema capacity old) u (unit_state_of schema capacity r) (found schema capacity u old r well numbered at) (shown_progress schema capacity r.held w) (ap (progress_of schema capacity r.held) s.before.progress) statement.0 (drop (suc r.next) r.script) s.before.ticket (drop_found r.script r.next statement.0 statement.1)
      (λ t. ap held_cells_of (s.turned t)) (next_need_of (noted_now schema capacity old r statement.0) n) (needs r statement.0 at statement.1).is

  -- where the step is an event and no turn back, memory may be refused in its place
  pub wants : (after : State (network schema capacity)) → step (network schema capacity) (opening_for schema capacity old) (state_of schema capacity old) u ≡ MovedTo after
      → (n : NextNeed CellName (List (Option Owner))) → next_need (network schema capacity) (opening_for schema capacity old) (state_of schema capacity old) (unit_state_of schema capacity r) (shown_progress schema capacity r.held w) statement.0 ≡ n
      → ((others : List (Option Owner)) → n ≢ StaleGuesses others) → WantsMemory (opening_for schema capacity old) (state_of schema capacity old) u
  wants after e n is onward = record {
    before = record {
      state = unit_state_of schema capacity r;
      found = found schema capacity u old r well numbered at;
      w = shown_progress schema capacity r.held w;
      progress = ap (progress_of schema capacity r.held) s.before.progress;
      ticket = s.before.ticket;
      turned = λ t. ap held_cells_of (s.turned t);
      left = (let l = ap length (drop_found r.script r.next statement.0 statement.1) in omega (arith, l));
    };
    after = after;
    event = e;
    onward = λ x xs others remaining stale.
        let same : x ≡ statement.0 = (let both = sym remaining ∙ drop_found r.script r.next statement.0 statement.1 in cc (both)) in
        onward others (sym is ∙ ap (next_need (network schema capacity) (opening_for schema capacity old) (state_of schema capacity old) (unit_state_of schema capacity r) (shown_progress schema capacity r.held w)) (sym same) ∙ stale);
  }

  -- what is kept of its course stays right while more is taken
  goes_on : (held : Hands) → HasMore r.held held → w.ticket ≡ None → (x : Statement) → slice_get r.script r.next ≡ Some x → CourseMatches schema capacity held r.unit x r.course
  goes_on held more t x is = course_stays schema capacity r.held r.unit held more x r.course ((well.runners (u - 1) r at).course w s.before.progress t x is)

  pub blocked_is : (new : Parts) → step (network schema capacity) (opening_for schema capacity old) (state_of schema capacity old) u ≡ IsBlocked → new.table.items ≡ old.table.items → new.history.items ≡ old.history.items → new.runners.items ≡ old.runners.items → IsStepped schema capacity u Blocked old new
  blocked_is new e t h n = record { tells = (e, λ i. state_from schema capacity (t i) (h i) (n i)); table = ap length t; count = ap length n; runners = subst (RunnersFit schema capacity) (sym n) well.runners }

  pub refused_is : WantsMemory (opening_for schema capacity old) (state_of schema capacity old) u → (new : Parts) (n : UnitState) → new.table.items ≡ old.table.items → new.history.items ≡ old.history.items → new.runners.items ≡ slice_set old.runners.items (u - 1) n → unit_state_of schema capacity n ≡ unit_state_of schema capacity r → RunnerFits schema capacity n → IsStepped schema capacity u NoMemory old new
  unfolding state_from
  refused_is wanting new n t h runners e f =
      let units : map (unit_state_of schema capacity) new.runners.items ≡ map (unit_state_of schema capacity) old.runners.items =
      ap (map (unit_state_of schema capacity)) (runners ∙ unit_written old.runners.items u n numbered) ∙ map_set_same (unit_state_of schema capacity) old.runners.items u r n (unit_there old.runners.items u r numbered at) e in
      record {
        tells = (wanting, λ i. record { location = location_at schema capacity (t i); history = map note_of (h i); counter = length (h i); units = units i });
        table = ap length t;
        count = ap length runners ∙ length-set old.runners.items (u - 1) n;
        runners = subst (RunnersFit schema capacity) (sym runners) (written_fit schema capacity old.runners.items (u - 1) n well.runners f);
      }

  -- an area
  module _ (a : ℕ) (needs : NeedsNext schema capacity old u w (Area a)) where
    pub area_step : (b : Bool) → list_any (holds_against w.exclusive a) (take (u - 1) old.runners.items) || list_any (holds_against w.exclusive a) (drop u old.runners.items) ≡ b →
        step (network schema capacity) (opening_for schema capacity old) (state_of schema capacity old) u ≡ takes_area (network schema capacity) (state_of schema capacity old) u (unit_state_of schema capacity r) (shown_progress schema capacity r.held w) a b
    unfolding state_from
    area_step b e =
        follows (Area a) needs
        ∙ follows_area (network schema capacity) (opening_for schema capacity old) (state_of schema capacity old) u (unit_state_of schema capacity r) (found schema capacity u old r well numbered at) (shown_progress schema capacity r.held w) (ap (progress_of schema capacity r.held) s.before.progress) statement.0 (drop (suc r.next) r.script) s.before.ticket (drop_found r.script r.next statement.0 statement.1)
        a b (others_hold schema capacity w.exclusive a u old.runners.items numbered ∙ e)

    pub area_blocked : (new : Parts) → list_any (holds_against w.exclusive a) (take (u - 1) old.runners.items) || list_any (holds_against w.exclusive a) (drop u old.runners.items) ≡ true → new.table.items ≡ old.table.items → new.history.items ≡ old.history.items → new.runners.items ≡ old.runners.items → IsStepped schema capacity u Blocked old new
    unfolding takes_area
    area_blocked new e t h n = blocked_is new (area_step true e) t h n

    pub area_taken : (new : Parts) (n : UnitState) (mid : Hands) → list_any (holds_against w.exclusive a) (take (u - 1) old.runners.items) || list_any (holds_against w.exclusive a) (drop u old.runners.items) ≡ false → new.table.items ≡ old.table.items → new.history.items ≡ old.history.items → new.runners.items ≡ slice_set old.runners.items (u - 1) n →
        mid ≡ record r.held { areas = r.held.areas ++ a ∷ [] } → n ≡ record r { held = mid } → IsStepped schema capacity u Moved old new
    unfolding takes_area state_from
    area_taken new n mid e t h runners m is =
        let all : n ≡ record r { held = record r.held { areas = r.held.areas ++ a ∷ [] } } = is ∙ ap (λ (x : Hands). record r { held = x }) m in
        let staged : record r { held = record r.held { areas = r.held.areas ++ a ∷ [] } } ≡ record r { held = record r.held { areas = r.held.areas ++ a ∷ [] }; progress = Some w } = λ i. record r { held = record r.held { areas = r.held.areas ++ a ∷ [] }; progress = s.before.progress i } in
        moved_is schema capacity u old r well numbered at new n h runners (location_at schema capacity old.table.items) r.held.guesses (Some (record (shown_progress schema capacity r.held w) { areas = a ∷ reverse r.held.areas }))
        (area_step false e) (ap length t) (ap (location_at schema capacity) t)
        (ap (unit_state_of schema capacity) (all ∙ staged) ∙ (λ i. record { unit = r.unit; guesses = r.held.guesses; script = r.script; remaining = drop r.next r.script; progress = Some (record (shown_progress schema capacity r.held w) { areas = reverse_more r.held.areas a i }) }))
        (subst (RunnerFits schema capacity) (sym (all ∙ staged)) (staged_fits schema capacity r (record r.held { areas = r.held.areas ++ a ∷ [] }) w r.course (well.runners (u - 1) r at) refl (goes_on (record r.held { areas = r.held.areas ++ a ∷ [] }) (more_by_area r.held (record r.held { areas = r.held.areas ++ a ∷ [] }) a refl))))

    pub area_refused : (new : Parts) (n : UnitState) (mid : Hands) → list_any (holds_against w.exclusive a) (take (u - 1) old.runners.items) || list_any (holds_against w.exclusive a) (drop u old.runners.items) ≡ false → new.table.items ≡ old.table.items → new.history.items ≡ old.history.items → new.runners.items ≡ slice_set old.runners.items (u - 1) n → mid ≡ r.held → n ≡ record r { held = mid } → IsStepped schema capacity u NoMemory old new
    unfolding takes_area
    area_refused new n mid e t h runners m is =
        let same : n ≡ r = is ∙ ap (λ (x : Hands). record r { held = x }) m in
        refused_is (wants _ (area_step false e) (NeedsArea a) (needs r statement.0 at statement.1).is (λ others q. absurd (cc (q)))) new n t h runners (ap (unit_state_of schema capacity) same) (subst (RunnerFits schema capacity) (sym same) (well.runners (u - 1) r at))

  -- a cell
  module _ (c : CellName) (needs : NeedsNext schema capacity old u w (Take c)) (number : ℕ) (is_number : cell_number schema capacity c ≡ Some number) where
    cell_step : (p : CellLocation) → slice_get old.table.items number ≡ Some p → step (network schema capacity) (opening_for schema capacity old) (state_of schema capacity old) u ≡ takes_cell (network schema capacity) (state_of schema capacity old) u (unit_state_of schema capacity r) (shown_progress schema capacity r.held w) c (location_of p)
    unfolding state_from
    cell_step p e =
        follows (Take c) needs
        ∙ follows_cell (network schema capacity) (opening_for schema capacity old) (state_of schema capacity old) u (unit_state_of schema capacity r) (found schema capacity u old r well numbered at) (shown_progress schema capacity r.held w) (ap (progress_of schema capacity r.held) s.before.progress) statement.0 (drop (suc r.next) r.script) s.before.ticket (drop_found r.script r.next statement.0 statement.1)
        c (location_of p) (location_placed schema capacity old.table.items c number p is_number e)

    pub cell_followed : (new : Parts) (n : UnitState) (mid : Hands) (result : Stepped) → IsTaken u number c old.table.items new.table.items r.held mid result → new.history.items ≡ old.history.items → new.runners.items ≡ slice_set old.runners.items (u - 1) n → n ≡ record r { held = mid } → IsStepped schema capacity u result old new
    unfolding takes_cell state_from
    cell_followed new n mid Moved m h runners is =
        let all : n ≡ record r { held = record r.held { cells = r.held.cells ++ (c, m.taken) ∷ [] } } = is ∙ ap (λ (x : Hands). record r { held = x }) m.held in
        let staged : record r { held = record r.held { cells = r.held.cells ++ (c, m.taken) ∷ [] } } ≡ record r { held = record r.held { cells = r.held.cells ++ (c, m.taken) ∷ [] }; progress = Some w } = λ i. record r { held = record r.held { cells = r.held.cells ++ (c, m.taken) ∷ [] }; progress = s.before.progress i } in
        moved_is schema capacity u old r well numbered at new n h runners (relocated (network schema capacity) (location_at schema capacity old.table.items) c (HeldBy u)) r.held.guesses
        (Some (record (shown_progress schema capacity r.held w) { cells = held_of (c, m.taken) ∷ held_cells_of r.held.cells }))
        (cell_step (AtHome m.taken) m.was)
        (ap length m.after_is ∙ length-set old.table.items number (WithUnit u))
        (ap (location_at schema capacity) m.after_is ∙ written_is schema capacity old.table.items c number (WithUnit u) is_number (slice_get_within old.table.items number (AtHome m.taken) m.was))
        (ap (unit_state_of schema capacity) (all ∙ staged) ∙ (λ i. record { unit = r.unit; guesses = r.held.guesses; script = r.script; remaining = drop r.next r.script; progress = Some (record (shown_progress schema capacity r.held w) { cells = held_behind r.held.cells (c, m.taken) i }) }))
        (subst (RunnerFits schema capacity) (sym (all ∙ staged)) (staged_fits schema capacity r (record r.held { cells = r.held.cells ++ (c, m.taken) ∷ [] }) w r.course (well.runners (u - 1) r at) refl (goes_on (record r.held { cells = r.held.cells ++ (c, m.taken) ∷ [] }) (more_by_cell r.held (record r.held { cells = r.held.cells ++ (c, m.taken) ∷ [] }) (c, m.taken) refl))))
    cell_followed new n mid Blocked m h runners is =
        let same : n ≡ r = is ∙ ap (λ (x : Hands). record r { held = x }) m.0.held in
        blocked_is new (cell_step (WithUnit m.1.0) m.1.1) m.0.after_is h (runners ∙ ap (slice_set old.runners.items (u - 1)) same ∙ set_same_at old.runners.items (u - 1) r at)
    cell_followed new n mid NoMemory m h runners is =
        let same : n ≡ r = is ∙ ap (λ (x : Hands). record r { held = x }) m.0.held in
        refused_is (wants _ (cell_step (AtHome m.1.0) m.1.1) (NeedsCell c) (needs r statement.0 at statement.1).is (λ others q. absurd (cc (q)))) new n m.0.after_is h runners (ap (unit_state_of schema capacity) same) (subst (RunnerFits schema capacity) (sym same) (well.runners (u - 1) r at))
    cell_followed new n mid Idle m h runners is = absurd m

  -- a turn back
  module _ (needs : NeedsNext schema capacity old u w Stale) (guesses : List (Option Owner)) (noted : guesses ≡ noted_now schema capacity old r statement.0) where
    pub owners_noted : (new : Parts) (n : UnitState) → new.table.items ≡ old.table.items → new.history.items ≡ old.history.items → new.runners.items ≡ slice_set old.runners.items (u - 1) n →
        n ≡ record r { held = record r.held { guesses = guesses }; progress = Some (record w { turning_back = nat_lt 0 (length r.held.cells) }); course = None } → IsStepped schema capacity u Moved old new
    unfolding follows_need state_from
    owners_noted new n t h runners is =
        let turning : nat_lt 0 (length r.held.cells) ≡ is_nonempty (held_cells_of r.held.cells) = ap (nat_lt 0) (sym (length_held r.held.cells)) ∙ sym (nonempty_length (held_cells_of r.held.cells)) in
        moved_is schema capacity u old r well numbered at new n h runners (location_at schema capacity old.table.items) guesses
        (Some (record (shown_progress schema capacity r.held w) { turning_back = is_nonempty (held_cells_of r.held.cells) }))
        (follows Stale needs ∙ ap (λ g. follows_need (network schema capacity) (opening_for schema capacity old) (state_of schema capacity old) u (unit_state_of schema capacity r) (shown_progress schema capacity r.held w) statement.0 (drop (suc r.next) r.script) (StaleGuesses g)) (sym noted)) (ap length t) (ap (location_at schema capacity) t)
        (ap (unit_state_of schema capacity) is ∙ (λ i. record { unit = r.unit; guesses = guesses; script = r.script; remaining = drop r.next r.script; progress = Some (record (shown_progress schema capacity r.held w) { turning_back = turning i }) }))
        (subst (RunnerFits schema capacity) (sym is) (record { settled = λ q. absurd (cc (q)); guesses = ap length noted ∙ noted_length schema capacity (database_of schema capacity old) r.unit statement.0 r.held.guesses (well.runners (u - 1) r at).guesses; course = λ v q t x e. no_course schema capacity r.held r.unit x }))
