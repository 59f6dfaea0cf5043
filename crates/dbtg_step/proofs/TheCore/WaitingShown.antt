-- What a unit waits for, and who holds it, is what the machine says.
use Rattle.std.proofs.Common.{ℕ, zero, suc, ◌+◌, ◌≡◌, ◌≢◌, ◌<◌, ◌-◌, cond, Bool, true, false, not, ◌&&◌, ◌||◌, List, [], ◌∷◌, Option, Some, None, drop, take, map, length, slice_get, refl, sym, ap, ◌∙◌, inl, inr, arith}
use Rattle.std.specs.Prelude.{◌⊎◌, ◌==◌, if◌then◌else◌, is_some, option_map}
use Rattle.std.specs.List.{list_any}
use Rattle.dbtg_schema.specs.Lists.{Lists}
use Rattle.dbtg_cells.specs.declared.cell.Cell.{Cell as CellHeld}
use Rattle.dbtg_cells.specs.declared.name.CellName.{CellName}
use Rattle.dbtg_cells.specs.Names.{name_eq}
use Rattle.dbtg_cells.specs.Shown.{CellValue}
use Rattle.dbtg_cells.proofs.Public.{name_eq_refl, there_is}
use Rattle.std.proofs.lemmas.Bool.{false≢true}
use Rattle.std.proofs.lemmas.Bool.Decides.{eqb_tells}
use Rattle.dbtg_unit.specs.declared.held.Need.{Need}
use Rattle.dbtg_unit.specs.declared.held.Need.TheVariants.{Area, Take, Stale, Ready}
use Rattle.dbtg_unit.specs.declared.statement.Statement.{Statement}
use Rattle.dbtg_unit.specs.Hands.Hands.{cell_of}
use Rattle.dbtg_unit.proofs.Public.{any_mapped}
use Rattle.dbtg_step.specs.declared.parts.Parts.{Parts}
use Rattle.dbtg_step.specs.declared.parts.UnitState.{UnitState as CoreUnit}
use Rattle.dbtg_step.specs.declared.parts.StatementProgress.{StatementProgress}
use Rattle.dbtg_step.specs.declared.waiting.Awaited.{Awaited}
use Rattle.dbtg_step.specs.declared.waiting.Awaited.TheVariants as awaits
use Rattle.dbtg_step.specs.Machine.SequentialDatabase.{HeldCell, In, unit_at}
use Rattle.dbtg_step.specs.Machine.Machine.{CellLocation, Home, HeldBy, State, UnitState, held_cells}
use Rattle.dbtg_step.specs.Machine.Step.{IsBlocked, IsIdle, MovedTo, Transition, conflicts, follows_need, step, takes_area, takes_cell}
use Rattle.dbtg_step.specs.Machine.Network.{network, next_need_of}
use Rattle.dbtg_step.specs.Machine.NeedOrder.{HasItsAreas}
use Rattle.dbtg_step.specs.Core.Parts.{CoreState, held_cells_of, held_of, location_at, progress_of, shown_progress, state_from, unit_state_of}
use Rattle.dbtg_step.specs.Core.Waiting.{awaited, awaited_of, blocking_of, has_in_hand, holders_from, taken_next, taken_next_by, where_blocked}
use Rattle.dbtg_step.specs.Inside.Events.{IsWell, NeedsNext, noted_now, opening_for}
use Rattle.dbtg_step.specs.Inside.Parts.{core_of, state_of}
use Rattle.dbtg_step.specs.Inside.Stands.{StandsBetween, StandsNeeding, StandsOver, StandsTicketed, StandsTurning, holds_against}
use Rattle.dbtg_step.specs.Inside.Waiting.{IsAwaited, has_awaited, is_with_unit, numbers_from}
use Rattle.dbtg_step.proofs.TheCore.EventsShown.{drop_found, found, length_held, no_unit_idle, over_idle}
use Rattle.dbtg_step.proofs.TheCore.FollowsShown.{area_step, conflict_is, follows, others_hold, statement}
use Rattle.dbtg_step.proofs.TheCore.NeedsRefused.{delete_moves, needed_is_free}
use Rattle.dbtg_step.proofs.TheCore.NeedsShown.{any_reverse}
use Rattle.dbtg_step.proofs.EachEvent.Events.{list_any_true}
use Rattle.dbtg_step.proofs.EachEvent.UnitFacts.{holder_has_cell}
use Rattle.dbtg_step.proofs.Runs.Waiting.{other_found}
use Rattle.dbtg_step.proofs.EachEvent.StepCases.{follows_cell, step_after_ticket, step_begins, step_turns_back}

-- a cell of a name is there where one is held
pub held_by_name : (cells : List (CellName × CellHeld)) (c : CellName) (o : Option CellHeld) → o ≡ cell_of c cells → list_any (λ e. name_eq c e.0) cells ≡ is_some o
held_by_name cells c o e = by cells ∙ sym (ap is_some e)
  where
    by : (es : List (CellName × CellHeld)) → list_any (λ e. name_eq c e.0) es ≡ is_some (cell_of c es)
    by [] = refl
    by (e ∷ es) = elim (name_eq c e.0) as (λ b. (b || list_any (λ e. name_eq c e.0) es) ≡ is_some (cond b (Some e.1) (cell_of c es))) [ true ↦ refl | false ↦ by es ]

-- WHO HAS IT IS SOMEBODY

any_name : (c : CellName) (cells : List (HeldCell CellName CellValue)) (h : HeldCell CellName CellValue) → In h cells → h.name ≡ c → list_any (λ (x : HeldCell CellName CellValue). name_eq c x.name) cells ≡ true
any_name c cells h i e = list_any_true (λ (x : HeldCell CellName CellValue). name_eq c x.name) cells h i (ap (name_eq c) e ∙ name_eq_refl c)

module _ (c : CoreState) (u : ℕ) (a : Awaited) where
  -- whether or not the first has it
  behind : (n : ℕ) (s : UnitState (network c.schema c.capacity)) (ss : List (UnitState (network c.schema c.capacity))) (b : Bool) → not (n == u) && has_in_hand c a s ≡ b → holders_from c u a (n + 1) ss ≢ [] → holders_from c u a n (s ∷ ss) ≢ []
  behind n s ss true h later e = let both = sym (ap (λ (b : Bool). if b then n ∷ holders_from c u a (n + 1) ss else holders_from c u a (n + 1) ss) h) ∙ e in cc (both)
  behind n s ss false h later e = later (sym (ap (λ (b : Bool). if b then n ∷ holders_from c u a (n + 1) ss else holders_from c u a (n + 1) ss) h) ∙ e)

  among : (n i : ℕ) (states : List (UnitState (network c.schema c.capacity))) (state : UnitState (network c.schema c.capacity)) → slice_get states i ≡ Some state → n + i ≢ u → has_in_hand c a state ≡ true → holders_from c u a n states ≢ []
  among n i [] state at other has = absurd (cc (at))
  among n zero (s ∷ ss) state at other has =
      let same : s ≡ state = cc (at) in
      let far : n == u ≡ false = elim (eqb_tells n u) [ inl p ↦ absurd (other (let there : n + 0 ≡ u = omega (arith, p.1) in there)) | inr p ↦ p.0 ] in
      let here : not (n == u) && has_in_hand c a s ≡ true = (λ j. not (far j) && has_in_hand c a (same j)) ∙ has in
      λ e. let both = sym (ap (λ (b : Bool). if b then n ∷ holders_from c u a (n + 1) ss else holders_from c u a (n + 1) ss) here) ∙ e in cc (both)
  among n (suc i) (s ∷ ss) state at other has = behind n s ss (not (n == u) && has_in_hand c a s) refl (among (n + 1) i ss state at (λ q. other (let there : n + suc i ≡ u = omega (arith, q) in there)) has)

  holder_found : (states : List (UnitState (network c.schema c.capacity))) (v : ℕ) (state : UnitState (network c.schema c.capacity)) → unit_at states v ≡ Some state → v ≢ u → has_in_hand c a state ≡ true → holders_from c u a 1 states ≢ []
  unfolding unit_at
  holder_found states zero state at other has = absurd (cc (at))
  holder_found states (suc i) state at other has = among 1 i states state at (λ q. other (let there : suc i ≡ u = omega (arith, q) in there)) has

-- WHAT IT WAITS FOR

module _ (schema : Lists) (capacity u : ℕ) (old : Parts) (well : IsWell schema capacity old) where
  has_cell : (x : CellName) (r : CoreUnit) (o : Option StatementProgress) → is_some o && list_any (λ (e : CellName × CellHeld). name_eq x e.0) r.held.cells ≡ list_any (λ (h : HeldCell CellName CellValue). name_eq x h.name) (held_cells (network schema capacity) (progress_of schema capacity r.held o))
  unfolding held_cells
  has_cell x r None = refl
  has_cell x r (Some w) = sym (any_reverse (λ (h : HeldCell CellName CellValue). name_eq x h.name) (map held_of r.held.cells) ∙ any_mapped (λ (h : HeldCell CellName CellValue). name_eq x h.name) held_of r.held.cells)

  moves_on : (t : State (network schema capacity)) → step (network schema capacity) (opening_for schema capacity old) (state_of schema capacity old) u ≡ MovedTo t → IsAwaited (core_of schema capacity old) u None
  moves_on t e = (sym (ap (λ (x : Transition (network schema capacity)). where_blocked (core_of schema capacity old) x (taken_next_by (core_of schema capacity old) (unit_at (state_of schema capacity old).units u))) e), (λ blocked. let both = sym e ∙ blocked in cc (both)))

  idles : step (network schema capacity) (opening_for schema capacity old) (state_of schema capacity old) u ≡ IsIdle → IsAwaited (core_of schema capacity old) u None
  idles e = (sym (ap (λ (x : Transition (network schema capacity)). where_blocked (core_of schema capacity old) x (taken_next_by (core_of schema capacity old) (unit_at (state_of schema capacity old).units u))) e), (λ blocked. let both = sym e ∙ blocked in cc (both)))

  pub no_unit_waits : (u ≡ 0) ⊎ (length old.runners.items < u) → IsAwaited (core_of schema capacity old) u None
  no_unit_waits h = idles (no_unit_idle schema capacity u old well h).tells.0

  module _ (r : CoreUnit) (numbered : 0 < u) (at : slice_get old.runners.items (u - 1) ≡ Some r) where
    pub over_waits : StandsOver r → IsAwaited (core_of schema capacity old) u None
    over_waits s = idles (over_idle schema capacity u old well r numbered at s).tells.0

    pub between_waits : StandsBetween r → IsAwaited (core_of schema capacity old) u None
    between_waits s =
        let x = there_is r.script r.next s.left in
        moves_on _ (step_begins (network schema capacity) (opening_for schema capacity old) (state_of schema capacity old) u (unit_state_of schema capacity r) (found schema capacity u old r well numbered at) x.0 (drop (suc r.next) r.script) (ap (progress_of schema capacity r.held) s.progress) (drop_found r.script r.next x.0 x.1))

    pub turning_waits : (w : StatementProgress) → StandsTurning r w → IsAwaited (core_of schema capacity old) u None
    turning_waits w s = by (held_cells_of r.held.cells) refl
      where
        by : (cells : List (HeldCell CellName CellValue)) → held_cells_of r.held.cells ≡ cells → IsAwaited (core_of schema capacity old) u None
        by [] e = let l = length_held r.held.cells in let none = ap length e in absurd (omega (arith, l, none, s.cells))
        by (h ∷ hs) e =
            let x = there_is r.script r.next s.before.left in
            moves_on _ (step_turns_back (network schema capacity) (opening_for schema capacity old) (state_of schema capacity old) u (unit_state_of schema capacity r) (found schema capacity u old r well numbered at) (shown_progress schema capacity r.held w) (ap (progress_of schema capacity r.held) s.before.progress) x.0 (drop (suc r.next) r.script) s.before.ticket (drop_found r.script r.next x.0 x.1) h hs s.turning e)

    pub ticketed_waits : (w : StatementProgress) → StandsTicketed r w → IsAwaited (core_of schema capacity old) u None
    ticketed_waits w s = moves_on _ (step_after_ticket (network schema capacity) (opening_for schema capacity old) (state_of schema capacity old) u (unit_state_of schema capacity r) (found schema capacity u old r well numbered at) (shown_progress schema capacity r.held w) (ap (progress_of schema capacity r.held) s.progress) s.ticket s.has)

    module _ (w : StatementProgress) (s : StandsNeeding r w) where
      next_is : (n : Need) → NeedsNext schema capacity old u w n → taken_next_by (core_of schema capacity old) (unit_at (state_of schema capacity old).units u) ≡ awaited_of w.exclusive (next_need_of (noted_now schema capacity old r (statement schema capacity u old r well numbered at w s).0) n)
      next_is n needs =
          let x = statement schema capacity u old r well numbered at w s in
          ap (taken_next_by (core_of schema capacity old)) (found schema capacity u old r well numbered at)
          ∙ (λ i. taken_next (core_of schema capacity old) (unit_state_of schema capacity r) (progress_of schema capacity r.held (s.before.progress i)) (drop_found r.script r.next x.0 x.1 i))
          ∙ ap (awaited_of w.exclusive) (needs r x.0 at x.1).is

      waits_as : (n : Need) → NeedsNext schema capacity old u w n → (t : Transition (network schema capacity)) → step (network schema capacity) (opening_for schema capacity old) (state_of schema capacity old) u ≡ t → awaited (core_of schema capacity old) u ≡ where_blocked (core_of schema capacity old) t (awaited_of w.exclusive (next_need_of (noted_now schema capacity old r (statement schema capacity u old r well numbered at w s).0) n))
      waits_as n needs t e = λ i. where_blocked (core_of schema capacity old) (e i) (next_is n needs i)

      -- another unit has the area
      area_held : (a : ℕ) → list_any (holds_against w.exclusive a) (take (u - 1) old.runners.items) || list_any (holds_against w.exclusive a) (drop u old.runners.items) ≡ true → holders_from (core_of schema capacity old) u (awaits.Area a w.exclusive) 1 (state_of schema capacity old).units ≢ []
      unfolding state_from
      area_held a e =
          let other = other_found (conflicts (network schema capacity) w.exclusive a) u (map (unit_state_of schema capacity) old.runners.items) (others_hold schema capacity w.exclusive a u old.runners.items numbered ∙ e) in
          holder_found (core_of schema capacity old) u (awaits.Area a w.exclusive) (map (unit_state_of schema capacity) old.runners.items) other.who other.it other.at other.other other.passes

      -- a cell that is needed is not the unit's own
      not_own : (c : CellName) → NeedsNext schema capacity old u w (Take c) → (v : ℕ) → location_at schema capacity old.table.items c ≡ HeldBy v → v ≢ u
      unfolding state_from
      not_own c needs v e same =
          let mine = holder_has_cell (network schema capacity) (opening_for schema capacity old) (state_of schema capacity old) well.lawful u (unit_state_of schema capacity r) (found schema capacity u old r well numbered at) c (e ∙ ap HeldBy same) in
          let has = any_name c (held_cells (network schema capacity) (progress_of schema capacity r.held r.progress)) mine.which mine.is_in mine.name in
          let free = needed_is_free schema capacity u old r well numbered at w s c needs in
          let progress : is_some r.progress ≡ true = ap is_some s.before.progress in
          false≢true (sym (ap (λ (b : Bool). is_some r.progress && b) free ∙ ap (λ (b : Bool). b && false) progress) ∙ (has_cell c r r.progress ∙ has))

      -- another unit has the cell
      cell_held : (c : CellName) → NeedsNext schema capacity old u w (Take c) → (v : ℕ) → location_at schema capacity old.table.items c ≡ HeldBy v → holders_from (core_of schema capacity old) u (awaits.Cell c) 1 (state_of schema capacity old).units ≢ []
      unfolding state_from
      cell_held c needs v e =
          let h = well.lawful.holder c v e in
          holder_found (core_of schema capacity old) u (awaits.Cell c) (state_of schema capacity old).units v h.state h.found (not_own c needs v e) (any_name c (held_cells (network schema capacity) h.state.progress) h.holds.which h.holds.is_in h.holds.name)

      pub area_awaited : (a : ℕ) → NeedsNext schema capacity old u w (Area a) → (b : Bool) → list_any (holds_against w.exclusive a) (take (u - 1) old.runners.items) || list_any (holds_against w.exclusive a) (drop u old.runners.items) ≡ b → IsAwaited (core_of schema capacity old) u (if b then Some (awaits.Area a w.exclusive) else None)
      unfolding takes_area
      area_awaited a needs true e = (sym (waits_as (Area a) needs IsBlocked (area_step schema capacity u old r well numbered at w s a needs true e)), area_held a e)
      area_awaited a needs false e = moves_on _ (area_step schema capacity u old r well numbered at w s a needs false e)

      cell_step : (c : CellName) → NeedsNext schema capacity old u w (Take c) → (p : CellLocation CellValue) → location_at schema capacity old.table.items c ≡ p →
          step (network schema capacity) (opening_for schema capacity old) (state_of schema capacity old) u ≡ takes_cell (network schema capacity) (state_of schema capacity old) u (unit_state_of schema capacity r) (shown_progress schema capacity r.held w) c p
      unfolding state_from
      cell_step c needs p e =
          let x = statement schema capacity u old r well numbered at w s in
          follows schema capacity u old r well numbered at w s (Take c) needs
          ∙ follows_cell (network schema capacity) (opening_for schema capacity old) (state_of schema capacity old) u (unit_state_of schema capacity r) (found schema capacity u old r well numbered at) (shown_progress schema capacity r.held w) (ap (progress_of schema capacity r.held) s.before.progress) x.0 (drop (suc r.next) r.script) s.before.ticket (drop_found r.script r.next x.0 x.1) c p e

      pub cell_awaited : (c : CellName) → NeedsNext schema capacity old u w (Take c) → (b : Bool) → is_with_unit (location_at schema capacity old.table.items c) ≡ b → IsAwaited (core_of schema capacity old) u (if b then Some (awaits.Cell c) else None)
      unfolding takes_cell
      cell_awaited c needs b h = by b (location_at schema capacity old.table.items c) refl h
        where
          by : (b : Bool) (p : CellLocation CellValue) → location_at schema capacity old.table.items c ≡ p → is_with_unit p ≡ b → IsAwaited (core_of schema capacity old) u (if b then Some (awaits.Cell c) else None)
          by true (Home v) e h = absurd (cc (h))
          by true (HeldBy v) e h = (sym (waits_as (Take c) needs IsBlocked (cell_step c needs (HeldBy v) e)), cell_held c needs v e)
          by false (Home v) e h = moves_on _ (cell_step c needs (Home v) e)
          by false (HeldBy v) e h = absurd (cc (h))

      pub stale_goes_on : NeedsNext schema capacity old u w Stale → IsAwaited (core_of schema capacity old) u None
      unfolding follows_need
      stale_goes_on needs = moves_on _ (follows schema capacity u old r well numbered at w s Stale needs)

      pub ready_goes_on : NeedsNext schema capacity old u w Ready → IsAwaited (core_of schema capacity old) u None
      unfolding follows_need
      ready_goes_on needs = moves_on _ (follows schema capacity u old r well numbered at w s Ready needs)

      pub delete_goes_on : ((x : Statement) → slice_get r.script r.next ≡ Some x → HasItsAreas schema r.unit r.held x) → IsAwaited (core_of schema capacity old) u None
      delete_goes_on has = let moves = delete_moves schema capacity u old r well numbered at w s has in moves_on moves.0 moves.1

  -- WHO HAS IT

  has_shown : (a : Awaited) (r : CoreUnit) → has_awaited a r ≡ has_in_hand (core_of schema capacity old) a (unit_state_of schema capacity r)
  has_shown (awaits.Area a exclusive) r = sym (conflict_is schema capacity exclusive a r)
  has_shown (awaits.Cell x) r = has_cell x r r.progress

  numbers_shown : (a : Awaited) (n : ℕ) (runners : List CoreUnit) → numbers_from u a n runners ≡ holders_from (core_of schema capacity old) u a n (map (unit_state_of schema capacity) runners)
  numbers_shown a n [] = refl
  numbers_shown a n (r ∷ rs) = λ i. if not (n == u) && has_shown a r i then n ∷ numbers_shown a (n + 1) rs i else numbers_shown a (n + 1) rs i

  pub waits_for : (a : Awaited) (holders : List ℕ) → IsAwaited (core_of schema capacity old) u (Some a) → holders ≡ numbers_from u a 1 old.runners.items → Some (record { awaited = a; holders = holders }) ≡ blocking_of (core_of schema capacity old) u
  unfolding state_from
  waits_for a holders is h =
      (λ i. Some (record { awaited = a; holders = (h ∙ numbers_shown a 1 old.runners.items) i }))
      ∙ ap (option_map (λ (it : Awaited). record { awaited = it; holders = holders_from (core_of schema capacity old) u it 1 (state_of schema capacity old).units })) is.0

  pub waits_for_some : (a : Awaited) (holders : List ℕ) → IsAwaited (core_of schema capacity old) u (Some a) → holders ≡ numbers_from u a 1 old.runners.items → holders ≢ []
  unfolding state_from
  waits_for_some a holders is h none = is.1 (sym (h ∙ numbers_shown a 1 old.runners.items) ∙ none)

  pub waits_for_nothing : IsAwaited (core_of schema capacity old) u None → None ≡ blocking_of (core_of schema capacity old) u
  waits_for_nothing is = ap (option_map (λ (it : Awaited). record { awaited = it; holders = holders_from (core_of schema capacity old) u it 1 (state_of schema capacity old).units })) is.0
