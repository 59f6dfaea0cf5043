-- What the events leave of the parts is what the machine's step leaves of its state.
use Rattle.std.proofs.Common.{ℕ, zero, suc, ◌≡◌, ◌<◌, ◌≤◌, ◌-◌, ◌+◌, Bool, true, false, ltb, List, [], ◌∷◌, ◌++◌, Option, Some, None, drop, map, length, reverse, slice_get, slice_set, refl, sym, ap, ◌∙◌, subst, arith, inl, inr}
use Rattle.std.specs.Prelude.{nat_lt, IfNone, ◌⊎◌}
use Rattle.std.proofs.lemmas.Bool.{le-ltb, lt-ltb}
use Rattle.std.proofs.lemmas.List.{length-append, length-map, length-reverse, nil_from_length, length-set}
use Rattle.std.specs.Option.{option_to_list}
use Rattle.std.proofs.lemmas.Option.{same_Some, slice_get_past}
use Rattle.dbtg_schema.specs.Lists.{Lists}
use Rattle.dbtg_cells.specs.declared.cell.Cell.{Cell}
use Rattle.dbtg_cells.specs.declared.name.CellName.{CellName}
use Rattle.dbtg_cells.specs.Cells.{shown}
use Rattle.dbtg_cells.specs.Shown.{CellValue}
use Rattle.dbtg_cells.proofs.Public.{reverse_more, there_is}
use Rattle.dbtg_unit.specs.declared.statement.Statement.{Statement}
use Rattle.dbtg_unit.specs.Hands.Hands.{Hands}
use Rattle.dbtg_step.specs.declared.course.Course.{Course}
use Rattle.dbtg_step.specs.declared.parts.Parts.{Parts}
use Rattle.dbtg_step.specs.declared.parts.UnitState.{UnitState as CoreUnit}
use Rattle.dbtg_step.specs.declared.parts.StatementProgress.{StatementProgress as CoreProgress}
use Rattle.dbtg_unit.specs.declared.moves.Stepped.TheVariants.{Moved, Idle}
use Rattle.dbtg_step.specs.Machine.SequentialDatabase.{HeldCell, In, SequentialDatabase, unit_at, with_unit_at}
use Rattle.dbtg_step.specs.Machine.Machine.{CellLocation, Home, HeldBy, StatementProgress, UnitState, State, begun, held_cells, relocated, unless_over}
use Rattle.dbtg_step.specs.Machine.Step.{IsIdle, MovedTo, after_ticket, is_nonempty, step, updated, with_progress}
use Rattle.dbtg_step.specs.Machine.Network.{is_delete, network}
use Rattle.dbtg_step.specs.Core.Courses.{CourseMatches}
use Rattle.dbtg_step.specs.Core.Parts.{held_cells_of, held_of, location_at, progress_of, shown_progress, state_from, unit_state_of}
use Rattle.dbtg_step.specs.Inside.Parts.{progress_while_held, state_of}
use Rattle.dbtg_step.specs.Inside.Stands.{HasStatement, StandsBetween, StandsOver, StandsTicketed, StandsTurning}
use Rattle.dbtg_step.specs.Inside.Leaves.{IsCellGiven}
use Rattle.dbtg_step.specs.Inside.Events.{IsStepped, IsWell, RunnerFits, RunnersFit, opening_for}
use Rattle.dbtg_step.proofs.TheCore.CoursesMatch.{no_course}
use Rattle.dbtg_step.proofs.TheCore.PlacesOfCells.{held_behind, length_home, updated_is, written_home_is}
use Rattle.dbtg_step.proofs.EachEvent.StepCases.{step_after_ticket, step_begins, step_no_unit, step_over, step_turns_back}
use Rattle.dbtg_step.proofs.EachEvent.UnitLists.{map_found}

-- LISTS

pub drop_found : {X : Type 0} (xs : List X) (i : ℕ) (x : X) → slice_get xs i ≡ Some x → drop i xs ≡ x ∷ drop (suc i) xs
drop_found [] i x e = absurd (cc)
drop_found (y ∷ ys) zero x e = let h : y ≡ x = cc in ap (λ z. z ∷ ys) h
drop_found (y ∷ ys) (suc i) x e = drop_found ys i x e

pub length_held : (cells : List (CellName × Cell)) → length (held_cells_of cells) ≡ length cells
length_held cells = length-reverse (map held_of cells) ∙ length-map cells held_of

pub nonempty_length : {X : Type 0} (xs : List X) → is_nonempty xs ≡ nat_lt 0 (length xs)
nonempty_length [] = refl
nonempty_length (x ∷ xs) = sym (lt-ltb _ _ (let l : 0 < suc (length xs) = omega arith in l))

pub slice_get_in : {X : Type 0} (xs : List X) (i : ℕ) (x : X) → slice_get xs i ≡ Some x → In x xs
slice_get_in [] i x e = absurd (cc)
slice_get_in (y ∷ ys) zero x e = let h : y ≡ x = cc in inl (sym h)
slice_get_in (y ∷ ys) (suc i) x e = inr (slice_get_in ys i x e)

pub drop_past : {X : Type 0} (xs : List X) (i : ℕ) → length xs ≤ i → drop i xs ≡ []
drop_past [] zero l = refl
drop_past [] (suc i) l = refl
drop_past (x ∷ xs) zero l = absurd (omega arith)
drop_past (x ∷ xs) (suc i) l = drop_past xs i (omega arith)

left_of_drop : {X : Type 0} (xs : List X) (i : ℕ) (y : X) (ys : List X) → drop i xs ≡ y ∷ ys → i < length xs
left_of_drop [] zero y ys e = absurd (cc (e))
left_of_drop [] (suc i) y ys e = absurd (cc (e))
left_of_drop (x ∷ xs) zero y ys e = omega arith
left_of_drop (x ∷ xs) (suc i) y ys e = let l = left_of_drop xs i y ys e in omega (arith, l)

-- BY THE UNIT'S NUMBER

pub no_unit : {X : Type 0} (xs : List X) (u : ℕ) → (u ≡ 0) ⊎ (length xs < u) → unit_at xs u ≡ None
unfolding unit_at
no_unit xs zero h = refl
no_unit xs (suc u) (inl e) = absurd (omega arith)
no_unit xs (suc u) (inr l) = slice_get_past xs u (omega arith)

pub unit_there : {X : Type 0} (xs : List X) (u : ℕ) (x : X) → 0 < u → slice_get xs (u - 1) ≡ Some x → unit_at xs u ≡ Some x
unfolding unit_at
unit_there xs zero x l e = absurd (omega arith)
unit_there xs (suc u) x l e = ap (slice_get xs) (let back : u ≡ suc u - 1 = omega arith in back) ∙ e

pub unit_written : {X : Type 0} (xs : List X) (u : ℕ) (x : X) → 0 < u → slice_set xs (u - 1) x ≡ with_unit_at xs u x
unfolding with_unit_at
unit_written xs zero x l = absurd (omega arith)
unit_written xs (suc u) x l = ap (λ i. slice_set xs i x) (let back : suc u - 1 ≡ u = omega arith in back)

pub written_fit : (schema : Lists) (capacity : ℕ) (runners : List CoreUnit) (i : ℕ) (n : CoreUnit) → RunnersFit schema capacity runners → RunnerFits schema capacity n → RunnersFit schema capacity (slice_set runners i n)
written_fit schema capacity [] i n fit f j r e = absurd (cc (e))
written_fit schema capacity (x ∷ xs) zero n fit f zero r e = let same : n ≡ r = cc (e) in subst (RunnerFits schema capacity) same f
written_fit schema capacity (x ∷ xs) zero n fit f (suc j) r e = fit (suc j) r e
written_fit schema capacity (x ∷ xs) (suc i) n fit f zero r e = fit zero r e
written_fit schema capacity (x ∷ xs) (suc i) n fit f (suc j) r e = written_fit schema capacity xs i n (λ k s g. fit (suc k) s g) f j r e

-- with a progress a unit need not be settled
pub staged_fits : (schema : Lists) (capacity : ℕ) (r : CoreUnit) (held : Hands) (w : CoreProgress) (course : Option Course) → RunnerFits schema capacity r → held.guesses ≡ r.held.guesses → (w.ticket ≡ None → (x : Statement) → slice_get r.script r.next ≡ Some x → CourseMatches schema capacity held r.unit x course) →
    RunnerFits schema capacity (record r { held = held; progress = Some w; course = course })
staged_fits schema capacity r held w course f e kept = record {
  settled = λ q. absurd (cc (q));
  guesses = ap length e ∙ f.guesses;
  course = λ v q t x is. (let same : w ≡ v = cc (q) in kept (ap (λ (z : CoreProgress). z.ticket) same ∙ t) x is);
}

over_some : (schema : Lists) (capacity : ℕ) (w : StatementProgress (network schema capacity)) (areas : List ℕ) (cells : List (HeldCell CellName CellValue)) → 0 < length areas + length cells → unless_over (network schema capacity) w areas cells ≡ Some w
unfolding unless_over
over_some schema capacity w [] [] l = absurd (omega arith)
over_some schema capacity w [] (c ∷ cs) l = refl
over_some schema capacity w (a ∷ as_) cs l = refl

over_none : (schema : Lists) (capacity : ℕ) (w : StatementProgress (network schema capacity)) → None ≡ unless_over (network schema capacity) w [] []
unfolding unless_over
over_none schema capacity w = refl

-- a progress that is over with nothing held
pub while_held_is : (schema : Lists) (capacity : ℕ) (hands : Hands) (w : CoreProgress) → progress_of schema capacity hands (progress_while_held hands.areas hands.cells (Some w)) ≡ unless_over (network schema capacity) (shown_progress schema capacity hands w) (reverse hands.areas) (held_cells_of hands.cells)
while_held_is schema capacity hands w = by hands.areas hands.cells
  where
    by : (areas : List ℕ) (cells : List (CellName × Cell)) → progress_of schema capacity hands (progress_while_held areas cells (Some w)) ≡ unless_over (network schema capacity) (shown_progress schema capacity hands w) (reverse areas) (held_cells_of cells)
    by [] [] = over_none schema capacity (shown_progress schema capacity hands w)
    by [] (c ∷ cs) = let l = length_held (c ∷ cs) in sym (over_some schema capacity (shown_progress schema capacity hands w) [] (held_cells_of (c ∷ cs)) (omega (arith, l)))
    by (a ∷ as_) cs = let l = length-reverse (a ∷ as_) in sym (over_some schema capacity (shown_progress schema capacity hands w) (reverse (a ∷ as_)) (held_cells_of cs) (omega (arith, l)))

pub over_is_empty : (areas : List ℕ) (cells : List (CellName × Cell)) (w : CoreProgress) → progress_while_held areas cells (Some w) ≡ None → (areas ≡ []) × (cells ≡ [])
over_is_empty [] [] w e = (refl, refl)
over_is_empty [] (c ∷ cs) w e = absurd (cc (e))
over_is_empty (a ∷ as_) cs w e = absurd (cc (e))

-- a progress that is not over is as it was
still_is : (areas : List ℕ) (cells : List (CellName × Cell)) (w v : CoreProgress) → progress_while_held areas cells (Some w) ≡ Some v → w ≡ v
still_is [] [] w v e = absurd (cc (e))
still_is [] (c ∷ cs) w v e = cc (e)
still_is (a ∷ as_) cs w v e = cc (e)

-- with a ticket nothing is asked of the course
pub closed_fits : (schema : Lists) (capacity : ℕ) (r : CoreUnit) (held : Hands) (w : CoreProgress) (ticket : ℕ) → w.ticket ≡ Some ticket → RunnerFits schema capacity r → held.guesses ≡ r.held.guesses →
    RunnerFits schema capacity (record r { held = held; progress = progress_while_held held.areas held.cells (Some w) })
closed_fits schema capacity r held w ticket has f e = record {
  settled = over_is_empty held.areas held.cells w;
  guesses = ap length e ∙ f.guesses;
  course = λ v q t x is. (let same = still_is held.areas held.cells w v q in let none : w.ticket ≡ None = ap (λ (z : CoreProgress). z.ticket) same ∙ t in absurd (cc (none, has)));
}

module _ (schema : Lists) (capacity u : ℕ) (old : Parts) (r : CoreUnit) (well : IsWell schema capacity old) (numbered : 0 < u) (at : slice_get old.runners.items (u - 1) ≡ Some r) where
  abbrev D : SequentialDatabase
  D = network schema capacity

  abbrev before : State (network schema capacity)
  before = state_of schema capacity old

  abbrev here : UnitState (network schema capacity)
  here = unit_state_of schema capacity r

  pub found : unit_at (state_of schema capacity old).units u ≡ Some (unit_state_of schema capacity r)
  unfolding state_from
  found = map_found (unit_state_of schema capacity) old.runners.items u r (unit_there old.runners.items u r numbered at)

  fits_here : RunnerFits schema capacity r
  fits_here = well.runners (u - 1) r at

  module _ (new : Parts) (n : CoreUnit) (history : new.history.items ≡ old.history.items) (runners : new.runners.items ≡ slice_set old.runners.items (u - 1) n) where
    -- one unit is written, and the table as the machine has it
    pub moved_is : (location : CellName → CellLocation CellValue) (guesses : _) (progress : Option (StatementProgress (network schema capacity))) →
        step (network schema capacity) (opening_for schema capacity old) (state_of schema capacity old) u ≡ MovedTo (updated (network schema capacity) (state_of schema capacity old) u (unit_state_of schema capacity r) location guesses progress) →
        length new.table.items ≡ length old.table.items → location_at schema capacity new.table.items ≡ location →
        unit_state_of schema capacity n ≡ with_progress (network schema capacity) (unit_state_of schema capacity r) guesses progress → RunnerFits schema capacity n →
        IsStepped schema capacity u Moved old new
    moved_is location guesses progress s t p e f =
        let units = runners ∙ unit_written old.runners.items u n numbered in
        let same : state_of schema capacity new ≡ state_from schema capacity new.table.items old.history.items (with_unit_at old.runners.items u n) = λ i. state_from schema capacity new.table.items (history i) (units i) in
        record {
          tells = s ∙ ap MovedTo (sym (same ∙ updated_is schema capacity old.table.items new.table.items old.history.items old.runners.items u r n location guesses progress p e));
          table = t;
          count = ap length runners ∙ length-set old.runners.items (u - 1) n;
          runners = subst (RunnersFit schema capacity) (sym runners) (written_fit schema capacity old.runners.items (u - 1) n well.runners f);
        }

    pub begins_is : StandsBetween r → new.table.items ≡ old.table.items → ((x : Statement) → slice_get r.script r.next ≡ Some x → n ≡ record r { progress = Some (record { exclusive = is_delete x; turning_back = false; ticket = None; linked = 0 }); course = None }) → IsStepped schema capacity u Moved old new
    unfolding begun state_from
    begins_is s t e =
        let x = there_is r.script r.next s.left in
        let settled = fits_here.settled s.progress in
        let w : CoreProgress = record { exclusive = is_delete x.0; turning_back = false; ticket = None; linked = 0 } in
        moved_is (location_at schema capacity old.table.items) r.held.guesses (Some (begun (network schema capacity) x.0))
        (step_begins (network schema capacity) (opening_for schema capacity old) (state_of schema capacity old) u (unit_state_of schema capacity r) found x.0 (drop (suc r.next) r.script) (ap (progress_of schema capacity r.held) s.progress) (drop_found r.script r.next x.0 x.1))
        (ap length t) (ap (location_at schema capacity) t)
        (ap (unit_state_of schema capacity) (e x.0 x.1) ∙ (λ i. record { unit = r.unit; guesses = r.held.guesses; script = r.script; remaining = drop r.next r.script; progress = Some (record { exclusive = is_delete x.0; areas = reverse (settled.0 i); cells = held_cells_of (settled.1 i); turning_back = false; ticket = None; linked = 0 }) }))
        (subst (RunnerFits schema capacity) (sym (e x.0 x.1)) (staged_fits schema capacity r r.held w None fits_here refl (λ t y is. no_course schema capacity r.held r.unit y)))

    -- a progress with a ticket is the machine's progress with a ticket
    after_step : (w : CoreProgress) → StandsTicketed r w → (b : Bool) → ltb w.linked (length (held_cells_of r.held.cells)) ≡ b → (cells : List (HeldCell CellName CellValue)) → held_cells_of r.held.cells ≡ cells → (areas : List ℕ) → reverse r.held.areas ≡ areas →
        step (network schema capacity) (opening_for schema capacity old) (state_of schema capacity old) u ≡ MovedTo (after_ticket (network schema capacity) (state_of schema capacity old) u (unit_state_of schema capacity r) (shown_progress schema capacity r.held w) b cells areas)
    after_step w s b e cells f areas g =
        step_after_ticket (network schema capacity) (opening_for schema capacity old) (state_of schema capacity old) u (unit_state_of schema capacity r) found (shown_progress schema capacity r.held w) (ap (progress_of schema capacity r.held) s.progress) s.ticket s.has
        ∙ (λ i. MovedTo (after_ticket (network schema capacity) (state_of schema capacity old) u (unit_state_of schema capacity r) (shown_progress schema capacity r.held w) (e i) (f i) (g i)))

    pub links_is : (w : CoreProgress) → StandsTicketed r w → w.linked < length r.held.cells → new.table.items ≡ old.table.items → n ≡ record r { progress = Some (record w { linked = w.linked + 1 }) } → IsStepped schema capacity u Moved old new
    unfolding after_ticket state_from
    links_is w s l t e =
        let less : ltb w.linked (length (held_cells_of r.held.cells)) ≡ true = lt-ltb _ _ (subst (λ m. w.linked < m) (sym (length_held r.held.cells)) l) in
        let next : w.linked + 1 ≡ suc w.linked = omega arith in
        moved_is (location_at schema capacity old.table.items) r.held.guesses (Some (record (shown_progress schema capacity r.held w) { linked = suc w.linked }))
        (after_step w s true less (held_cells_of r.held.cells) refl (reverse r.held.areas) refl)
        (ap length t) (ap (location_at schema capacity) t)
        (ap (unit_state_of schema capacity) e ∙ (λ i. record { unit = r.unit; guesses = r.held.guesses; script = r.script; remaining = drop r.next r.script; progress = Some (record (shown_progress schema capacity r.held w) { linked = next i }) }))
        (subst (RunnerFits schema capacity) (sym e) (staged_fits schema capacity r r.held (record w { linked = w.linked + 1 }) r.course fits_here refl (λ t. (let none : w.ticket ≡ None = t in absurd (cc (none, s.has))))))

    -- a cell that the unit holds stands with the unit
    held_here : (w : CoreProgress) → r.progress ≡ Some w → (h : HeldCell CellName CellValue) → In h (held_cells_of r.held.cells) → location_at schema capacity old.table.items h.name ≡ HeldBy u
    unfolding held_cells state_from
    held_here w s h i = (well.lawful.each u (unit_state_of schema capacity r) found).holding.held h (subst (λ o. In h (held_cells (network schema capacity) (progress_of schema capacity r.held o))) (sym s) i)

    -- the newest cell goes home
    module _ (w : CoreProgress) (progress : r.progress ≡ Some w) (mid : Hands) (given : IsCellGiven schema capacity r.held mid old.table.items new.table.items) where
      newest : held_cells_of r.held.cells ≡ held_of given.which ∷ held_cells_of mid.cells
      newest = ap held_cells_of given.cells ∙ held_behind mid.cells given.which

      areas_stay : mid.areas ≡ r.held.areas
      areas_stay = ap (λ (h : Hands). h.areas) given.rest

      guesses_stay : mid.guesses ≡ r.held.guesses
      guesses_stay = ap (λ (h : Hands). h.guesses) given.rest

      cell_home : location_at schema capacity new.table.items ≡ relocated (network schema capacity) (location_at schema capacity old.table.items) given.which.0 (Home (shown given.which.1))
      cell_home =
          ap (location_at schema capacity) given.home
          ∙ written_home_is schema capacity old.table.items given.which.0 given.which.1 u (held_here w progress (held_of given.which) (subst (λ cells. In (held_of given.which) cells) (sym newest) (inl refl)))

      table_stays : length new.table.items ≡ length old.table.items
      table_stays = ap length given.home ∙ length_home schema capacity old.table.items given.which.0 given.which.1

      pub gives_cell_is : StandsTicketed r w → length r.held.cells ≤ w.linked → n ≡ record { unit = r.unit; held = mid; script = r.script; next = r.next; progress = progress_while_held mid.areas mid.cells r.progress; course = r.course } → IsStepped schema capacity u Moved old new
      unfolding after_ticket state_from
      gives_cell_is s l e =
          let less : ltb w.linked (length (held_cells_of r.held.cells)) ≡ false = le-ltb _ _ (subst (λ m. m ≤ w.linked) (sym (length_held r.held.cells)) l) in
          let is : n ≡ record r { held = mid; progress = progress_while_held mid.areas mid.cells (Some w) } = e ∙ ap (λ o. record { unit = r.unit; held = mid; script = r.script; next = r.next; progress = progress_while_held mid.areas mid.cells o; course = r.course }) progress in
          moved_is (relocated (network schema capacity) (location_at schema capacity old.table.items) given.which.0 (Home (shown given.which.1))) r.held.guesses
          (unless_over (network schema capacity) (record (shown_progress schema capacity r.held w) { cells = held_cells_of mid.cells }) (reverse r.held.areas) (held_cells_of mid.cells))
          (after_step w s false less (held_of given.which ∷ held_cells_of mid.cells) newest (reverse r.held.areas) refl)
          table_stays cell_home
          (ap (unit_state_of schema capacity) is
          ∙ (λ i. record { unit = r.unit; guesses = guesses_stay i; script = r.script; remaining = drop r.next r.script; progress = while_held_is schema capacity mid w i })
          ∙ (λ i. record { unit = r.unit; guesses = r.held.guesses; script = r.script; remaining = drop r.next r.script; progress = unless_over (network schema capacity) (record (shown_progress schema capacity r.held w) { cells = held_cells_of mid.cells; areas = reverse (areas_stay i) }) (reverse (areas_stay i)) (held_cells_of mid.cells) }))
          (subst (RunnerFits schema capacity) (sym is) (closed_fits schema capacity r mid w s.ticket s.has fits_here guesses_stay))

      pub turns_back_is : StandsTurning r w → n ≡ record { unit = r.unit; held = mid; script = r.script; next = r.next; progress = Some (record w { turning_back = nat_lt 0 (length mid.cells) }); course = None } → IsStepped schema capacity u Moved old new
      unfolding state_from
      turns_back_is s e =
          let x = there_is r.script r.next s.before.left in
          let turning : nat_lt 0 (length mid.cells) ≡ is_nonempty (held_cells_of mid.cells) = ap (nat_lt 0) (sym (length_held mid.cells)) ∙ sym (nonempty_length (held_cells_of mid.cells)) in
          moved_is (relocated (network schema capacity) (location_at schema capacity old.table.items) given.which.0 (Home (shown given.which.1))) r.held.guesses
          (Some (record (shown_progress schema capacity r.held w) { cells = held_cells_of mid.cells; turning_back = is_nonempty (held_cells_of mid.cells) }))
          (step_turns_back (network schema capacity) (opening_for schema capacity old) (state_of schema capacity old) u (unit_state_of schema capacity r) found (shown_progress schema capacity r.held w) (ap (progress_of schema capacity r.held) progress) x.0 (drop (suc r.next) r.script) s.before.ticket (drop_found r.script r.next x.0 x.1) (held_of given.which) (held_cells_of mid.cells) s.turning newest)
          table_stays cell_home
          (ap (unit_state_of schema capacity) e
          ∙ (λ i. record { unit = r.unit; guesses = guesses_stay i; script = r.script; remaining = drop r.next r.script; progress = Some (record { exclusive = w.exclusive; areas = reverse (areas_stay i); cells = held_cells_of mid.cells; turning_back = turning i; ticket = w.ticket; linked = w.linked }) }))
          (subst (RunnerFits schema capacity) (sym e) (staged_fits schema capacity r mid (record w { turning_back = nat_lt 0 (length mid.cells) }) None fits_here guesses_stay (λ t y is. no_course schema capacity mid r.unit y)))

    -- with all cells at home an area is left, or nothing is held
    pub leaves_area_is : (w : CoreProgress) → StandsTicketed r w → length r.held.cells ≡ 0 → (mid : Hands) (o : Option ℕ) → r.held.areas ≡ mid.areas ++ option_to_list o → IfNone o (r.held.areas ≡ []) → mid ≡ record r.held { areas = mid.areas } → new.table.items ≡ old.table.items →
        n ≡ record { unit = r.unit; held = mid; script = r.script; next = r.next; progress = progress_while_held mid.areas mid.cells r.progress; course = r.course } → IsStepped schema capacity u Moved old new
    unfolding after_ticket state_from unless_over
    leaves_area_is w s l mid o areas none rest t e = by o areas none
      where
        no_cells : r.held.cells ≡ []
        no_cells = nil_from_length r.held.cells l

        cells_stay : mid.cells ≡ r.held.cells
        cells_stay = ap (λ (h : Hands). h.cells) rest

        guesses_same : mid.guesses ≡ r.held.guesses
        guesses_same = ap (λ (h : Hands). h.guesses) rest

        less : ltb w.linked (length (held_cells_of r.held.cells)) ≡ false
        less = le-ltb _ _ (let z = length_held r.held.cells in omega (arith, z, l))

        is : n ≡ record r { held = mid; progress = progress_while_held mid.areas mid.cells (Some w) }
        is = e ∙ ap (λ o. record { unit = r.unit; held = mid; script = r.script; next = r.next; progress = progress_while_held mid.areas mid.cells o; course = r.course }) s.progress

        leaves : (progress : Option (StatementProgress (network schema capacity))) → step (network schema capacity) (opening_for schema capacity old) (state_of schema capacity old) u ≡ MovedTo (updated (network schema capacity) (state_of schema capacity old) u (unit_state_of schema capacity r) (location_at schema capacity old.table.items) r.held.guesses progress) →
            unless_over (network schema capacity) (shown_progress schema capacity mid w) (reverse mid.areas) (held_cells_of mid.cells) ≡ progress → IsStepped schema capacity u Moved old new
        leaves progress q p =
            moved_is (location_at schema capacity old.table.items) r.held.guesses progress q (ap length t) (ap (location_at schema capacity) t)
            (ap (unit_state_of schema capacity) is
            ∙ (λ i. record { unit = r.unit; guesses = guesses_same i; script = r.script; remaining = drop r.next r.script; progress = (while_held_is schema capacity mid w ∙ p) i }))
            (subst (RunnerFits schema capacity) (sym is) (closed_fits schema capacity r mid w s.ticket s.has fits_here guesses_same))

        by : (o : Option ℕ) → r.held.areas ≡ mid.areas ++ option_to_list o → IfNone o (r.held.areas ≡ []) → IsStepped schema capacity u Moved old new
        by None areas none =
            let empty : mid.areas ≡ [] = nil_from_length mid.areas (let z = ap length areas in let y = ap length none in let v = length-append mid.areas [] in omega (arith, z, y, v)) in
            leaves None (after_step w s false less [] (ap held_cells_of no_cells) [] (ap reverse none))
            (λ i. unless_over (network schema capacity) (shown_progress schema capacity mid w) (reverse (empty i)) (held_cells_of ((cells_stay ∙ no_cells) i)))
        by (Some a) areas none =
            leaves (unless_over (network schema capacity) (record (shown_progress schema capacity r.held w) { areas = reverse mid.areas }) (reverse mid.areas) [])
            (after_step w s false less [] (ap held_cells_of no_cells) (a ∷ reverse mid.areas) (ap reverse areas ∙ reverse_more mid.areas a))
            ((λ i. unless_over (network schema capacity) (record (shown_progress schema capacity mid w) { cells = held_cells_of (cells_stay i) }) (reverse mid.areas) (held_cells_of (cells_stay i)))
            ∙ (λ i. unless_over (network schema capacity) (record (shown_progress schema capacity r.held w) { areas = reverse mid.areas }) (reverse mid.areas) (held_cells_of (no_cells i))))

-- IDLE

module _ (schema : Lists) (capacity u : ℕ) (old : Parts) (well : IsWell schema capacity old) where
  stays_idle : step (network schema capacity) (opening_for schema capacity old) (state_of schema capacity old) u ≡ IsIdle → IsStepped schema capacity u Idle old old
  stays_idle e = record { tells = (e, refl); table = refl; count = refl; runners = well.runners }

  pub no_unit_idle : (u ≡ 0) ⊎ (length old.runners.items < u) → IsStepped schema capacity u Idle old old
  unfolding state_from
  no_unit_idle h = stays_idle (step_no_unit (network schema capacity) (opening_for schema capacity old) (state_of schema capacity old) u (no_unit (map (unit_state_of schema capacity) old.runners.items) u (elim h [ inl e ↦ inl e | inr l ↦ inr (let m = length-map old.runners.items (unit_state_of schema capacity) in omega (arith, m, l)) ])))

  pub over_idle : (r : CoreUnit) → 0 < u → slice_get old.runners.items (u - 1) ≡ Some r → StandsOver r → IsStepped schema capacity u Idle old old
  over_idle r numbered at s = stays_idle (step_over (network schema capacity) (opening_for schema capacity old) (state_of schema capacity old) u (unit_state_of schema capacity r) (found schema capacity u old r well numbered at) (ap (progress_of schema capacity r.held) s.progress) (drop_past r.script r.next s.none_left))

  -- a statement that a unit makes is one of its script
  pub has_statement : (r : CoreUnit) → 0 < u → slice_get old.runners.items (u - 1) ≡ Some r → HasStatement r
  has_statement r numbered at w e t = let m = well.in_turn.each u (unit_state_of schema capacity r) (shown_progress schema capacity r.held w) (found schema capacity u old r well numbered at) (ap (progress_of schema capacity r.held) e) t in left_of_drop r.script r.next m.x m.xs m.remaining

-- a unit in this position is in it with the progress that it has
pub stands_so : {old r : CoreUnit} {p : CoreProgress} (Stands : CoreUnit → CoreProgress → Type 0) → ((x : CoreUnit) (w : CoreProgress) → Stands x w → x.progress ≡ Some w) → old ≡ r
    → (w : CoreProgress) × Stands old w → old.progress ≡ Some p → Stands r p
stands_so {old} {r} {p} Stands its same stands is =
    subst (λ (t : CoreUnit × CoreProgress). Stands t.0 t.1) (λ i. (same i, same_Some stands.0 p (sym (its old stands.0 stands.1) ∙ is) i)) stands.1
