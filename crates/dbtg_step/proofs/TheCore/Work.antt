-- A unit that is alone in mid-statement is never blocked, and each of its steps leaves less to do.
use Rattle.std.proofs.Common.{ℕ, suc, ◌+◌, ◌-◌, ◌*◌, ◌<◌, ◌≤◌, ◌≡◌, ◌≢◌, Bool, true, false, cond, ltb, leb, List, [], ◌∷◌, length, Option, Some, None, ◌⊎◌, inl, inr, slice_get, refl, sym, ap, ◌∙◌, subst, arith, ltb-true}
use Rattle.std.proofs.lemmas.Bool.{cases_Bool, cases_lt, false≢true, le-leb, leb-true}
use Rattle.std.proofs.lemmas.Bool.Decides.{eqb_tells}
use Rattle.std.proofs.lemmas.Option.{same_Some}
use Rattle.std.proofs.lemmas.List.{nil_from_length}
use Rattle.dbtg_schema.specs.Lists.{Lists}
use Rattle.dbtg_schema.specs.Sound.{IsSound}
use Rattle.dbtg_cells.specs.declared.key.Owner.{Owner}
use Rattle.dbtg_cells.specs.declared.name.CellName.{CellName}
use Rattle.dbtg_cells.specs.Names.{name_below}
use Rattle.dbtg_cells.specs.Shown.{CellValue}
use Rattle.dbtg_unit.specs.declared.statement.Statement.{Statement}
use Rattle.dbtg_unit.specs.declared.unit.Unit.{Unit}
use Rattle.dbtg_unit.specs.Database.State.Base.{Database}
use Rattle.dbtg_unit.specs.declared.moves.Stepped.TheVariants.{Blocked, Idle, Moved}
use Rattle.dbtg_step.specs.declared.parts.Parts.{Parts}
use Rattle.dbtg_step.specs.declared.parts.UnitState.{UnitState as CoreUnit}
use Rattle.dbtg_step.specs.Machine.SequentialDatabase.{HeldCell, NextNeed, NeedsArea, NeedsCell, StaleGuesses, NeedsNothing, In, unit_at}
use Rattle.dbtg_step.specs.Machine.Machine.{CellLocation, Home, HeldBy, StatementProgress, UnitState, State, SequentialState, begun, held_areas, held_cells, replay, unless_over}
use Rattle.dbtg_step.specs.Machine.Step.{MovedTo, after_ticket, any_other, conflicts, due_cells, follows_need, is_nonempty, next_need, step, takes_area, takes_cell, updated, with_progress, with_ticket}
use Rattle.dbtg_step.specs.Inside.Step.{IfMoved}
use Rattle.dbtg_step.specs.Machine.Lawful.{Lawful}
use Rattle.dbtg_step.specs.Inside.Events.{IsStepped, IsWell, opening_for}
use Rattle.dbtg_step.specs.Machine.Headline.{opening_of}
use Rattle.dbtg_step.specs.Inside.NeverStuck.{AllInTurn}
use Rattle.dbtg_step.specs.Machine.Network.{network}
use Rattle.dbtg_step.specs.Inside.Parts.{state_of}
use Rattle.dbtg_step.specs.Core.Parts.{unit_state_of}
use Rattle.dbtg_step.specs.Machine.TurningBack.{needs_left}
use Rattle.dbtg_step.specs.Inside.Turns.{IsDone}
use Rattle.dbtg_step.proofs.TheCore.Alone.{OneStep, StepsAlone, Unticketed, one_step, step_alone}
use Rattle.dbtg_step.proofs.TheCore.EventsShown.{found}
use Rattle.dbtg_step.proofs.Network.NetworkFacts.{needs_in_order}
use Rattle.dbtg_step.proofs.Network.NetworkNeeds.{network_names_cells}
use Rattle.dbtg_step.proofs.EachEvent.StepCases.{step_after_ticket, step_begins, step_follows, step_turns_back, follows_area, follows_cell}
use Rattle.dbtg_step.proofs.EachEvent.Turns.{step_in_turn}
use Rattle.dbtg_step.proofs.Network.TurnsBack.{area_falls, cell_falls, turn_falls}
use Rattle.dbtg_step.proofs.EachEvent.UnitFacts.{may_make}
use Rattle.dbtg_step.proofs.EachEvent.UnitLists.{set_at, set_elsewhere}
use Rattle.dbtg_step.proofs.Runs.Waiting.{other_found}

-- all but unit u are between statements, and what the units hold was taken in turn
pub record IsAtWork (schema : Lists) (capacity u : ℕ) (s : State (network schema capacity)) : Type 0 where
  pub state : UnitState (network schema capacity)
  pub found : unit_at s.units u ≡ Some state
  pub others : (w : ℕ) (other : UnitState (network schema capacity)) → w ≢ u → unit_at s.units w ≡ Some other → other.progress ≡ None
  pub in_turn : AllInTurn (network schema capacity) name_below s

-- nothing is left to do
pub record Rests (schema : Lists) (capacity : ℕ) (state : UnitState (network schema capacity)) : Type 0 where
  pub between : state.progress ≡ None
  pub ended : state.remaining ≡ []

-- unit u is at work on its next statement, after which it has n left
pub record IsAlone (schema : Lists) (capacity u n : ℕ) (s : State (network schema capacity)) : Type 0 where
  pub work : IsAtWork schema capacity u s
  pub few : length work.state.remaining ≤ suc n
  -- without a ticket the statement is still among those that are left
  pub begun : (w : StatementProgress (network schema capacity)) → work.state.progress ≡ Some w → w.ticket ≡ None → n < length work.state.remaining

more : {k n : ℕ} → (k ≤ n → ⊥) → n < k
more {k} {n} f = elim (cases_lt n k) [ inl l ↦ l | inr g ↦ absurd (f g) ]

module _ (schema : Lists) (capacity : ℕ) where
  abbrev M : Type 0
  M = State (network schema capacity)

  abbrev W : Type 0
  W = StatementProgress (network schema capacity)

  abbrev Guesses : Type 0
  Guesses = List (Option Owner)

  abbrev Held : Type 0
  Held = List (HeldCell CellName CellValue)

  abbrev left_found : Option (UnitState (network schema capacity)) → ℕ
  left_found None = 0
  left_found (Some state) = length state.remaining

  -- how many statements of the unit have no ticket yet
  abbrev pub statements_left : M → ℕ → ℕ
  statements_left s u = left_found (unit_at s.units u)

  -- HOW MUCH IS LEFT, until the unit is between statements with n of them left

  module _ (n : ℕ) where
    -- a statement that has not begun, if it is to be made
    abbrev to_begin : Database → Unit → Guesses → List Statement → ℕ
    to_begin db unit g [] = 0
    to_begin db unit g (x ∷ xs) = cond (leb n (length xs)) (4 + 3 * needs_left schema capacity db unit x g [] []) 0

    none_to_begin : (db : Database) (unit : Unit) (g : Guesses) (xs : List Statement) → length xs ≤ n → to_begin db unit g xs ≡ 0
    none_to_begin db unit g [] few = refl
    none_to_begin db unit g (x ∷ xs) few = elim (cases_Bool (leb n (length xs))) [
      | inl t ↦ (let high = leb-true _ _ t in absurd (omega (arith, few, high)))
      | inr f ↦ (λ i. cond (f i) (4 + 3 * needs_left schema capacity db unit x g [] []) 0)
    ]

    -- a unit that turns back with no cell is one step behind
    abbrev behind : Bool → Held → ℕ
    behind true [] = 5
    behind _ cells = 0

    -- a statement before its ticket: its needs, then the links of held cells, and giving back what is held
    abbrev to_draw : Database → Unit → Guesses → Statement → List ℕ → Bool → Held → ℕ
    to_draw db unit g x areas turning cells = 3 + 3 * needs_left schema capacity db unit x g areas (cond turning [] cells) + 2 * length cells + length areas + behind turning cells

    -- with a ticket
    abbrev to_end : ℕ → List ℕ → Held → ℕ
    to_end linked areas cells = 1 + (length cells - linked) + length cells + length areas

    abbrev in_work : Database → Unit → Guesses → W → Option ℕ → List Statement → ℕ
    in_work db unit g w (Some t) xs = to_end w.linked w.areas w.cells + to_begin db unit g xs
    in_work db unit g w None [] = 0
    in_work db unit g w None (x ∷ xs) = to_draw db unit g x w.areas w.turning_back w.cells

    abbrev work_by : Database → Unit → Guesses → Option W → List Statement → ℕ
    work_by db unit g None xs = to_begin db unit g xs
    work_by db unit g (Some w) xs = in_work db unit g w w.ticket xs

    abbrev work_of : Database → UnitState (network schema capacity) → ℕ
    work_of db state = work_by db state.unit state.guesses state.progress state.remaining

    abbrev work_found : Database → Option (UnitState (network schema capacity)) → ℕ
    work_found db None = 0
    work_found db (Some state) = work_of db state

    abbrev pub turn_left : SequentialState (network schema capacity) → M → ℕ → ℕ
    turn_left opening s u = work_found (replay (network schema capacity) opening s.history).database (unit_at s.units u)

    -- a progress with a ticket that may be over
    over : (db : Database) (unit : Unit) (g : Guesses) (xs : List Statement) (v : W) (t : ℕ) (areas : List ℕ) (cells : Held) → v.ticket ≡ Some t → v.areas ≡ areas → v.cells ≡ cells →
        work_by db unit g (unless_over (network schema capacity) v areas cells) xs ≤ to_end v.linked areas cells + to_begin db unit g xs
    unfolding unless_over
    over db unit g xs v t areas cells e f h = by areas cells ((λ i. in_work db unit g v (e i) xs) ∙ (λ i. to_end v.linked (f i) (h i) + to_begin db unit g xs))
      where
        by : (areas : List ℕ) (cells : Held) → work_by db unit g (Some v) xs ≡ to_end v.linked areas cells + to_begin db unit g xs → work_by db unit g (unless_over (network schema capacity) v areas cells) xs ≤ to_end v.linked areas cells + to_begin db unit g xs
        by [] [] k = omega arith
        by [] (c ∷ cs) k = omega (arith, k)
        by (b ∷ bs) [] k = omega (arith, k)
        by (b ∷ bs) (c ∷ cs) k = omega (arith, k)

    due_length : (db : Database) (cells : Held) → length (due_cells (network schema capacity) db cells) ≡ length cells
    unfolding due_cells
    due_length db [] = refl
    due_length db (c ∷ cs) = ap suc (due_length db cs)

    -- ONE STEP

    module _ (sound : IsSound schema) (opening : SequentialState (network schema capacity)) (s : M) (l : Lawful (network schema capacity) opening s) (u : ℕ) (a : IsAtWork schema capacity u s) (few : length a.state.remaining ≤ suc n) where
      abbrev db : Database
      db = (replay (network schema capacity) opening s.history).database

      -- an event of the unit, after which less is left
      pub record ComesOn : Type 0 where
        pub after : M
        pub moves : step (network schema capacity) opening s u ≡ MovedTo after
        pub less : turn_left opening after u < turn_left opening s u

      here : turn_left opening s u ≡ work_of db a.state
      here = ap (work_found db) a.found

      -- by an event that draws no ticket
      updated_is : (location : CellName → CellLocation CellValue) (g : Guesses) (p : Option W) (n : ℕ) → n ≡ work_by db a.state.unit g p a.state.remaining → n < work_of db a.state → step (network schema capacity) opening s u ≡ MovedTo (updated (network schema capacity) s u a.state location g p) → ComesOn
      unfolding updated
      updated_is location g p n e less moves =
          let new = with_progress (network schema capacity) a.state g p in
          let found : turn_left opening (updated (network schema capacity) s u a.state location g p) u ≡ work_by db a.state.unit g p a.state.remaining = ap (work_found db) (set_at s.units u a.state new a.found) in
          record { after = _; moves = moves; less = subst (λ m. m < turn_left opening s u) (e ∙ sym found) (subst (λ m. n < m) (sym here) less) }

      script_begins : (x : Statement) (xs : List Statement) → a.state.progress ≡ None → a.state.remaining ≡ x ∷ xs → n < length (x ∷ xs) → ComesOn
      unfolding begun
      script_begins x xs p r more =
          let m = needs_left schema capacity db a.state.unit x a.state.guesses [] [] in
          let high : leb n (length xs) ≡ true = le-leb n (length xs) (omega (arith, more)) in
          let now : work_of db a.state ≡ 4 + 3 * m = (λ i. work_by db a.state.unit a.state.guesses (p i) (r i)) ∙ (λ i. cond (high i) (4 + 3 * m) 0) in
          let then : 3 + 3 * m + 0 + 0 + 0 ≡ work_by db a.state.unit a.state.guesses (Some (begun (network schema capacity) x)) a.state.remaining = λ i. work_by db a.state.unit a.state.guesses (Some (begun (network schema capacity) x)) (sym r i) in
          updated_is s.location a.state.guesses _ (3 + 3 * m + 0 + 0 + 0) then (omega (arith, now)) (step_begins (network schema capacity) opening s u a.state a.found x xs p r)

      module _ (w : W) (is : a.state.progress ≡ Some w) where
        now_in : work_of db a.state ≡ in_work db a.state.unit a.state.guesses w w.ticket a.state.remaining
        now_in = ap (λ p. work_by db a.state.unit a.state.guesses p a.state.remaining) is

        -- WITH A TICKET

        module _ (t : ℕ) (has : w.ticket ≡ Some t) where
          abbrev rest : ℕ
          rest = to_begin db a.state.unit a.state.guesses a.state.remaining

          now_ends : work_of db a.state ≡ to_end w.linked w.areas w.cells + rest
          now_ends = now_in ∙ ap (λ o. in_work db a.state.unit a.state.guesses w o a.state.remaining) has

          -- a progress with the ticket
          staged : (v : W) → v.ticket ≡ Some t → work_by db a.state.unit a.state.guesses (Some v) a.state.remaining ≡ to_end v.linked v.areas v.cells + rest
          staged v e = ap (λ o. in_work db a.state.unit a.state.guesses v o a.state.remaining) e

          ends : (b : Bool) (cells : Held) (areas : List ℕ) → ltb w.linked (length w.cells) ≡ b → w.cells ≡ cells → w.areas ≡ areas →
              step (network schema capacity) opening s u ≡ MovedTo (after_ticket (network schema capacity) s u a.state w b cells areas) → ComesOn
          unfolding after_ticket
          ends true cells areas q e f moves =
              let low = ltb-true _ _ q in
              let k = staged (record w { linked = suc w.linked }) has in
              let n = now_ends in
              updated_is s.location a.state.guesses _ _ refl (omega (arith, low, k, n)) moves
          ends false (h ∷ hs) areas q e f moves =
              let k = over db a.state.unit a.state.guesses a.state.remaining (record w { cells = hs }) t areas hs has f refl in
              let n = now_ends ∙ (λ i. to_end w.linked (f i) (e i) + rest) in
              updated_is _ a.state.guesses _ _ refl (omega (arith, k, n)) moves
          ends false [] (b ∷ areas) q e f moves =
              let k = over db a.state.unit a.state.guesses a.state.remaining (record w { areas = areas }) t areas [] has refl e in
              let n = now_ends ∙ (λ i. to_end w.linked (f i) (e i) + rest) in
              updated_is s.location a.state.guesses _ _ refl (omega (arith, k, n)) moves
          ends false [] [] q e f moves =
              let n = now_ends ∙ (λ i. to_end w.linked (f i) (e i) + rest) in
              updated_is s.location a.state.guesses None rest refl (omega (arith, n)) moves

          ticketed : ComesOn
          ticketed = ends _ w.cells w.areas refl refl refl (step_after_ticket (network schema capacity) opening s u a.state a.found w is t has)

        -- BEFORE THE TICKET

        module _ (x : Statement) (xs : List Statement) (no_ticket : w.ticket ≡ None) (r : a.state.remaining ≡ x ∷ xs) where
          abbrev left : List ℕ → Bool → Held → ℕ
          left areas turning cells = to_draw db a.state.unit a.state.guesses x areas turning cells

          now_draws : work_of db a.state ≡ left w.areas w.turning_back w.cells
          now_draws = now_in ∙ (λ i. in_work db a.state.unit a.state.guesses w (no_ticket i) (r i))

          waits : (g : Guesses) (v : W) → v.ticket ≡ None → to_draw db a.state.unit g x v.areas v.turning_back v.cells ≡ work_by db a.state.unit g (Some v) a.state.remaining
          waits g v e = λ i. in_work db a.state.unit g v (sym e i) (sym r i)

          back : (h : HeldCell CellName CellValue) (hs : Held) → w.turning_back ≡ true → w.cells ≡ h ∷ hs → ComesOn
          back h hs t e =
              let n = now_draws ∙ (λ i. left w.areas (t i) (e i)) in
              updated_is _ a.state.guesses _ _ (waits a.state.guesses (record w { cells = hs; turning_back = is_nonempty hs }) no_ticket) (fewer hs n) (step_turns_back (network schema capacity) opening s u a.state a.found w is x xs no_ticket r h hs t e)
            where
              fewer : (hs : Held) → work_of db a.state ≡ left w.areas true (h ∷ hs) → left w.areas (is_nonempty hs) hs < work_of db a.state
              fewer [] n = omega (arith, n)
              fewer (k ∷ ks) n = omega (arith, n)

          module _ (turned : w.turning_back ≡ true → w.cells ≡ []) where
            follows : (n : NextNeed CellName Guesses) → next_need (network schema capacity) opening s a.state w x ≡ n → step (network schema capacity) opening s u ≡ follows_need (network schema capacity) opening s u a.state w x xs n
            follows n e = step_follows (network schema capacity) opening s u a.state a.found w is x xs no_ticket r turned n e

            held_now : cond w.turning_back [] w.cells ≡ w.cells
            held_now = by w.turning_back turned
              where
                by : (b : Bool) → (b ≡ true → w.cells ≡ []) → cond b [] w.cells ≡ w.cells
                by true f = sym (f refl)
                by false f = refl

            no_other : (excl : Bool) (n : ℕ) → any_other (conflicts (network schema capacity) excl n) u s.units ≡ false
            unfolding conflicts held_areas
            no_other excl n = elim (cases_Bool (any_other (conflicts (network schema capacity) excl n) u s.units)) [
              | inl t ↦
                  let o = other_found (conflicts (network schema capacity) excl n) u s.units t in
                  let idle = a.others o.who o.it o.other o.at in
                  absurd (false≢true (sym (ap (λ p. conflicts (network schema capacity) excl n (record { unit = o.it.unit; guesses = o.it.guesses; script = o.it.script; remaining = o.it.remaining; progress = p })) idle) ∙ o.passes))
              | inr f ↦ f
            ]

            needs_area : (n : ℕ) → next_need (network schema capacity) opening s a.state w x ≡ NeedsArea n → ComesOn
            unfolding takes_area next_need
            needs_area n e =
                let now = now_draws in
                let fewer = area_falls schema capacity db a.state.unit x a.state.guesses w.areas w.cells n e in
                let fewer_held : needs_left schema capacity db a.state.unit x a.state.guesses (n ∷ w.areas) (cond w.turning_back [] w.cells) < needs_left schema capacity db a.state.unit x a.state.guesses w.areas (cond w.turning_back [] w.cells)
                = subst (λ (cs : Held). needs_left schema capacity db a.state.unit x a.state.guesses (n ∷ w.areas) cs < needs_left schema capacity db a.state.unit x a.state.guesses w.areas cs) (sym held_now) fewer in
                updated_is s.location a.state.guesses _ _ (waits a.state.guesses (record w { areas = n ∷ w.areas }) no_ticket) (omega (arith, now, fewer_held))
                (follows (NeedsArea n) e ∙ follows_area (network schema capacity) opening s u a.state a.found w is x xs no_ticket r n false (no_other w.exclusive n))

            needs_cell_at : (c : CellName) (v : CellValue) → next_need (network schema capacity) opening s a.state w x ≡ NeedsCell c → s.location c ≡ Home v → ComesOn
            unfolding takes_cell next_need
            needs_cell_at c v e home =
                let h : HeldCell CellName CellValue = record { name = c; value = v } in
                let fewer = cell_falls schema capacity db a.state.unit x a.state.guesses w.areas w.cells h e in
                updated_is _ a.state.guesses _ _ (waits a.state.guesses (record w { cells = h ∷ w.cells }) no_ticket) (by w.turning_back w.cells refl turned now_draws fewer)
                (follows (NeedsCell c) e ∙ follows_cell (network schema capacity) opening s u a.state a.found w is x xs no_ticket r c (Home v) home)
              where
                by : (b : Bool) (cells : Held) → w.turning_back ≡ b → (b ≡ true → cells ≡ []) → work_of db a.state ≡ left w.areas b cells →
                    needs_left schema capacity db a.state.unit x a.state.guesses w.areas (record { name = c; value = v } ∷ cells) < needs_left schema capacity db a.state.unit x a.state.guesses w.areas cells → left w.areas b (record { name = c; value = v } ∷ cells) < work_of db a.state
                by true [] q f n less = omega (arith, n)
                by true (k ∷ ks) q f n less = let g = f refl in absurd (cc (g))
                by false cells q f n less = omega (arith, n, less)

            needs_cell : (c : CellName) → next_need (network schema capacity) opening s a.state w x ≡ NeedsCell c → (p : CellLocation CellValue) → s.location c ≡ p → ComesOn
            unfolding held_cells next_need
            needs_cell c e (Home v) home = needs_cell_at c v e home
            needs_cell c e (HeldBy v) held =
                let holder = l.holder c v held in
                elim (eqb_tells v u) [
                  | inl p ↦
                      let same : holder.state ≡ a.state = same_Some holder.state a.state (sym holder.found ∙ ap (unit_at s.units) p.1 ∙ a.found) in
                      let in_hand = subst (In holder.holds.which) (ap (λ (b : UnitState (network schema capacity)). held_cells (network schema capacity) b.progress) same ∙ ap (held_cells (network schema capacity)) is) holder.holds.is_in in
                      absurd ((network_names_cells schema capacity).fresh db a.state.unit x a.state.guesses w.areas w.cells c e holder.holds.which in_hand holder.holds.name)
                  | inr p ↦ absurd (subst (λ q. In holder.holds.which (held_cells (network schema capacity) q)) (a.others v holder.state p.1 holder.found) holder.holds.is_in)
                ]

            turns : (g : Guesses) → next_need (network schema capacity) opening s a.state w x ≡ StaleGuesses g → ComesOn
            unfolding next_need follows_need
            turns g e =
                let fit = (may_make (network schema capacity) opening s l u a.state a.found x xs r).fits in
                let fewer = turn_falls schema capacity db a.state.unit x a.state.guesses w.areas w.cells g fit e in
                let fewer_held : needs_left schema capacity db a.state.unit x g w.areas [] < needs_left schema capacity db a.state.unit x a.state.guesses w.areas (cond w.turning_back [] w.cells)
                = subst (λ (cs : Held). needs_left schema capacity db a.state.unit x g w.areas [] < needs_left schema capacity db a.state.unit x a.state.guesses w.areas cs) (sym held_now) fewer in
                let now = now_draws in
                updated_is s.location g _ _ (waits g (record w { turning_back = is_nonempty w.cells }) no_ticket) (by w.cells _ fewer_held (omega (arith, now))) (follows (StaleGuesses g) e)
              where
                by : (cells : Held) (m : ℕ) → needs_left schema capacity db a.state.unit x g w.areas [] < m → 3 + 3 * m + 2 * length cells + length w.areas ≤ work_of db a.state → to_draw db a.state.unit g x w.areas (is_nonempty cells) cells < work_of db a.state
                by [] m less n = omega (arith, less, n)
                by (k ∷ ks) m less n = omega (arith, less, n)

            draws : next_need (network schema capacity) opening s a.state w x ≡ NeedsNothing → ComesOn
            unfolding with_ticket follows_need
            draws e =
                let moved = follows NeedsNothing e in
                let t = with_ticket (network schema capacity) opening s u a.state w x xs in
                let given = (network schema capacity).effect db a.state.unit x in
                let last : length xs ≤ n = (let f = subst (λ (ys : List Statement). length ys ≤ suc n) r few in omega (arith, f)) in
                let v : W = record { exclusive = w.exclusive; areas = w.areas; cells = due_cells (network schema capacity) given.database w.cells; turning_back = false; ticket = Some s.counter; linked = 0 } in
                let db' = (replay (network schema capacity) opening t.history).database in
                let g' = (network schema capacity).guesses_after db a.state.unit x a.state.guesses in
                let new : UnitState (network schema capacity) = record { unit = given.unit; guesses = g'; script = a.state.script; remaining = xs; progress = unless_over (network schema capacity) v w.areas v.cells } in
                let found : turn_left opening t u ≡ work_by db' given.unit g' (unless_over (network schema capacity) v w.areas v.cells) xs = ap (work_found db') (set_at s.units u a.state new a.found) in
                let most = over db' given.unit g' xs v s.counter w.areas v.cells refl refl refl in
                let none_left : to_begin db' given.unit g' xs ≡ 0 = none_to_begin db' given.unit g' xs last in
                let many = due_length given.database w.cells in
                let now = now_draws in
                let was = here in
                record { after = t; moves = moved; less = omega (arith, found, most, none_left, many, now, was) }

            meets : (n : NextNeed CellName Guesses) → next_need (network schema capacity) opening s a.state w x ≡ n → ComesOn
            meets (NeedsArea n) e = needs_area n e
            meets (NeedsCell c) e = needs_cell c e (s.location c) refl
            meets (StaleGuesses g) e = turns g e
            meets NeedsNothing e = draws e

          before : (b : Bool) (cells : Held) → w.turning_back ≡ b → w.cells ≡ cells → ComesOn
          before true (h ∷ hs) t e = back h hs t e
          before true [] t e = meets (λ _. e) _ refl
          before false cells t e = meets (λ q. absurd (cc (q, t))) _ refl

        in_statement : (t : Option ℕ) → w.ticket ≡ t → ComesOn
        in_statement (Some t) e = ticketed t e
        in_statement None e = let i = a.in_turn.each u a.state w a.found is e in before i.x i.xs e i.remaining w.turning_back w.cells refl refl

      -- where the unit has something to do, its next step is an event, after which less is left
      pub comes_on : (IsDone (network schema capacity) n a.state → ⊥) → ComesOn
      comes_on busy = by a.state.progress a.state.remaining refl refl
        where
          by : (p : Option W) (xs : List Statement) → a.state.progress ≡ p → a.state.remaining ≡ xs → ComesOn
          by None [] p r = absurd (busy (record { between = p; few = subst (λ (ys : List Statement). length ys ≤ n) (sym r) (omega arith) }))
          by None (x ∷ xs) p r = script_begins x xs p r (more (λ few. busy (record { between = p; few = subst (λ (ys : List Statement). length ys ≤ n) (sym r) few })))
          by (Some w) xs p r = in_statement w p w.ticket refl

  -- ONE STEP OF MANY

  -- how much is left of a script, as far as its next statement that has no ticket
  abbrev pub work_left : SequentialState (network schema capacity) → M → ℕ → ℕ
  work_left opening s u = turn_left (statements_left s u - 1) opening s u

  module _ (sound : IsSound schema) (opening : SequentialState (network schema capacity)) (s : M) (l : Lawful (network schema capacity) opening s) (u : ℕ) (a : IsAtWork schema capacity u s) where
    -- an event of the unit, after which fewer statements are left, or as many with less to do
    pub record GoesOn : Type 0 where
      pub after : M
      pub moves : step (network schema capacity) opening s u ≡ MovedTo after
      pub less : (statements_left after u < statements_left s u) ⊎ ((statements_left after u ≡ statements_left s u) × (work_left opening after u < work_left opening s u))

    left_now : statements_left s u ≡ length a.state.remaining
    left_now = ap left_found a.found

    -- where the unit has something to do, its next step is an event
    pub never_waits : (Rests schema capacity a.state → ⊥) → GoesOn
    unfolding IfMoved
    never_waits busy =
        let n = statements_left s u - 1 in
        let left = left_now in
        let few : length a.state.remaining ≤ suc n = omega (arith, left) in
        let on = comes_on n sound opening s l u a few (λ h. let f = h.few in busy (record { between = h.between; ended = nil_from_length a.state.remaining (omega (arith, f, left)) })) in
        let alone = subst (λ r. IfMoved (network schema capacity) r (StepsAlone (network schema capacity) opening s u a.state)) on.moves (step_alone (network schema capacity) opening s u a.state a.found) in
        let then : statements_left on.after u ≡ length alone.new.remaining = ap (λ us. left_found (unit_at us u)) alone.units ∙ ap left_found (set_at s.units u a.state alone.new a.found) in
        record {
          after = on.after;
          moves = on.moves;
          less = elim alone.drawn [
            | inl p ↦ (let same : statements_left on.after u ≡ statements_left s u = then ∙ ap length p.1 ∙ sym left_now in inr (same, subst (λ k. turn_left (k - 1) opening on.after u < turn_left n opening s u) (sym same) on.less))
            | inr d ↦ (let was = ap length d.before in let is = ap length d.after in inl (omega (arith, then, left, was, is)))
          ];
        }

    stays_alone : (t : M) → StepsAlone (network schema capacity) opening s u a.state t → AllInTurn (network schema capacity) name_below t → IsAtWork schema capacity u t
    stays_alone t c order = record {
      state = c.new;
      found = subst (λ us. unit_at us u ≡ Some c.new) (sym c.units) (set_at s.units u a.state c.new a.found);
      others = λ w other n e. a.others w other n (sym (set_elsewhere s.units u w c.new n) ∙ subst (λ us. unit_at us w ≡ Some other) c.units e);
      in_turn = order;
    }

    -- and it is alone at work after the event
    pub stays_at_work : (t : M) → step (network schema capacity) opening s u ≡ MovedTo t → IsAtWork schema capacity u t
    unfolding IfMoved
    stays_at_work t e =
        stays_alone t
        (subst (λ r. IfMoved (network schema capacity) r (StepsAlone (network schema capacity) opening s u a.state)) e (step_alone (network schema capacity) opening s u a.state a.found))
        (subst (λ r. IfMoved (network schema capacity) r (AllInTurn (network schema capacity) name_below)) e (step_in_turn (network schema capacity) name_below (needs_in_order schema capacity sound) opening s l a.in_turn u))

-- OF THE PARTS

-- how much unit u has left to do, until it has at most n statements left
abbrev pub parts_left : Lists → ℕ → ℕ → ℕ → Parts → ℕ
parts_left schema capacity n u parts = turn_left schema capacity n (opening_for schema capacity parts) (state_of schema capacity parts) u

moved_to : (schema : Lists) (capacity : ℕ) (a b : State (network schema capacity)) → MovedTo a ≡ MovedTo b → a ≡ b
moved_to schema capacity a b e = cc (e)

module _ (schema : Lists) (capacity n u : ℕ) (old : Parts) (well : IsWell schema capacity old) (a : IsAlone schema capacity u n (state_of schema capacity old)) where
  module _ (r : CoreUnit) (numbered : 0 < u) (at : slice_get old.runners.items (u - 1) ≡ Some r) (busy : IsDone (network schema capacity) n (unit_state_of schema capacity r) → ⊥) where
    busy_there : IsDone (network schema capacity) n a.work.state → ⊥
    busy_there h =
        let same : a.work.state ≡ unit_state_of schema capacity r = same_Some a.work.state (unit_state_of schema capacity r) (sym a.work.found ∙ found schema capacity u old r well numbered at) in
        busy (subst (IsDone (network schema capacity) n) same h)

    still_many : ((a.work.state.progress ≡ None) ⊎ Unticketed (network schema capacity) a.work.state.progress) → n < length a.work.state.remaining
    still_many where_it_was = elim where_it_was [
      | inl idle ↦ more (λ few. busy_there (record { between = idle; few = few }))
      | inr v ↦ a.begun v.0 v.1 v.2
    ]

    module _ (new : Parts) (stepped : IsStepped schema capacity u Moved old new) where
      one : OneStep (network schema capacity) (opening_for schema capacity old) (state_of schema capacity old) u a.work.state (state_of schema capacity new)
      unfolding IfMoved
      one = subst (λ q. IfMoved (network schema capacity) q (OneStep (network schema capacity) (opening_for schema capacity old) (state_of schema capacity old) u a.work.state)) stepped.tells (one_step (network schema capacity) (opening_for schema capacity old) (state_of schema capacity old) u a.work.state a.work.found)

      abbrev at_work : IsAtWork schema capacity u (state_of schema capacity new)
      at_work = stays_at_work schema capacity well.sound (opening_for schema capacity old) (state_of schema capacity old) well.lawful u a.work (state_of schema capacity new) stepped.tells

      same_unit : at_work.state ≡ one.alone.new
      same_unit = same_Some at_work.state one.alone.new (sym at_work.found ∙ ap (λ us. unit_at us u) one.alone.units ∙ set_at (state_of schema capacity old).units u a.work.state one.alone.new a.work.found)

      fewer : length at_work.state.remaining ≤ suc n
      fewer =
          let was = a.few in
          let is = ap (λ (x : UnitState (network schema capacity)). length x.remaining) same_unit in
          elim one.alone.drawn [
            | inl p ↦ (let e = ap length p.1 in omega (arith, was, is, e))
            | inr d ↦ (let e = ap length d.before in let f = ap length d.after in omega (arith, was, is, e, f))
          ]

      pub parts_stay : IsAlone schema capacity u n (state_of schema capacity new)
      parts_stay = record {
        work = at_work;
        few = fewer;
        begun = λ w e none. (let q = one.undrawn (w, ap (λ (x : UnitState (network schema capacity)). x.progress) (sym same_unit) ∙ e, none) in
            subst (λ (ys : List Statement). n < length ys) (sym (ap (λ (x : UnitState (network schema capacity)). x.remaining) same_unit ∙ q.0)) (still_many q.1));
      }

    moves : ComesOn schema capacity n well.sound (opening_for schema capacity old) (state_of schema capacity old) well.lawful u a.work a.few
    moves = comes_on schema capacity n well.sound (opening_for schema capacity old) (state_of schema capacity old) well.lawful u a.work a.few busy_there

    pub parts_less : (new : Parts) → IsStepped schema capacity u Moved old new → parts_left schema capacity n u new < parts_left schema capacity n u old
    parts_less new stepped =
        let m = moves in
        let after : m.after ≡ state_of schema capacity new = moved_to schema capacity m.after (state_of schema capacity new) (sym m.moves ∙ stepped.tells) in
        subst (λ k. turn_left schema capacity n (opening_of schema capacity k) (state_of schema capacity new) u < parts_left schema capacity n u old) (sym stepped.count)
        (subst (λ (t : State (network schema capacity)). turn_left schema capacity n (opening_for schema capacity old) t u < parts_left schema capacity n u old) after m.less)

    pub not_blocked : (new : Parts) → IsStepped schema capacity u Blocked old new → ⊥
    not_blocked new stepped = let m = moves in let e = sym m.moves ∙ stepped.tells.0 in absurd (cc (e))

    pub not_idle : (new : Parts) → IsStepped schema capacity u Idle old new → ⊥
    not_idle new stepped = let m = moves in let e = sym m.moves ∙ stepped.tells.0 in absurd (cc (e))
