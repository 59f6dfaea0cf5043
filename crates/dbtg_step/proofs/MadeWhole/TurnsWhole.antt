-- Turns of statements that are made whole stand for moves of the machine.
-- s is a state in which every unit is between statements, now one in the turn of unit u, first that unit before its turn.
use Rattle.std.proofs.Common.{ℕ, zero, suc, ◌+◌, ◌-◌, ◌<◌, ◌≤◌, ◌≡◌, ◌≢◌, true, cond, ◌⊎◌, inl, inr, refl, sym, ap, ◌∙◌, subst, arith}
use Rattle.std.proofs.Common.{List, [], ◌∷◌, ◌++◌, length, map, drop, take, get_or, slice_get, append_assoc, append-nil, Option, Some, None}
use Rattle.std.specs.Prelude.{MatchOption, nat_lt, option_map, reverse, slice_set}
use Rattle.std.specs.List.{list_all}
use Rattle.std.specs.Option.{option_to_list, unwrap_or}
use Rattle.std.proofs.lemmas.Bool.{and_from, and_parts, lt-ltb}
use Rattle.std.proofs.lemmas.List.{at_drop_all, at_drop_more, length-set, map-append, nil_from_length, reverse-append}
use Rattle.std.proofs.lemmas.Bool.Decides.{eqb_tells}
use Rattle.std.proofs.lemmas.Option.{same_Some, slice_get_read}
use Rattle.dbtg_schema.specs.Lists.{Lists}
use Rattle.dbtg_schema.specs.Sound.{IsSound}
use Rattle.dbtg_cells.specs.Names.{name_below}
use Rattle.dbtg_unit.specs.declared.moves.Move.{Move}
use Rattle.dbtg_unit.specs.declared.moves.Move.TheVariants.{Step}
use Rattle.dbtg_unit.specs.declared.statement.Statement.{Statement}
use Rattle.dbtg_unit.specs.declared.unit.Entry.{Entry}
use Rattle.dbtg_unit.specs.Database.State.Image.{image_of}
use Rattle.dbtg_unit.specs.Database.Statements.Fits.{fits}
use Rattle.dbtg_unit.specs.Database.Laws.Replay.{AnswersHold, TicketsInOrder, entries_of, opening_state, replay}
use Rattle.dbtg_unit.specs.Database.Laws.Replaying.{statements_of}
use Rattle.dbtg_unit.proofs.Public.{opening_is_legal}
use Rattle.dbtg_step.specs.declared.results.Run.{Run}
use Rattle.dbtg_step.specs.Machine.SequentialDatabase.{unit_at, with_unit_at}
use Rattle.dbtg_step.specs.Machine.Machine.{HistoryEntry, SequentialState, State, StatementProgress, UnitState, replay as machine_replay}
use Rattle.dbtg_step.specs.Machine.Step.{MovedTo, step}
use Rattle.dbtg_step.specs.Machine.Lawful.{Lawful}
use Rattle.dbtg_step.specs.Machine.Network.{network}
use Rattle.dbtg_step.specs.Machine.Headline.{IsSequential, entry_of, machine_after, machine_of, opening_of, units_from}
use Rattle.dbtg_step.specs.Laws.{scripts_fit}
use Rattle.dbtg_step.specs.Core.Serial.{AtRest, IsSteppedOut, Onward}
use Rattle.dbtg_step.specs.Core.Turns.{AllBetween, AreEvents, AreTurns, IsRunByTurns, IsTurn, IsTurnOf, left_of, made_turns}
use Rattle.dbtg_step.specs.Core.Whole.{IsMadeRun, Making}
use Rattle.dbtg_step.specs.Inside.NeverStuck.{AllInTurn}
use Rattle.dbtg_step.specs.Inside.Step.{IfMoved}
use Rattle.dbtg_step.specs.Inside.Turns.{after_turn, left_at, made_in_turn, statements_in_turn}
use Rattle.dbtg_step.specs.Inside.Whole.{HasMadeAll}
use Rattle.dbtg_step.proofs.EachEvent.Keeps.{step_keeps}
use Rattle.dbtg_step.proofs.EachEvent.UnitLists.{map_at, map_set, set_at, set_same}
use Rattle.dbtg_step.proofs.Network.NetworkFacts.{network_is_sequential}
use Rattle.dbtg_step.proofs.Runs.Headlines.{run_is_sequential}
use Rattle.dbtg_step.proofs.Runs.Opening.{opening_is_lawful}
use Rattle.dbtg_step.proofs.Runs.Serials.{comes_out, made_by}
use Rattle.dbtg_step.proofs.TheCore.Alone.{DrawsNext, OneStep, StepsAlone, Unticketed, one_step}
use Rattle.dbtg_step.proofs.TheCore.EventsShown.{no_unit, unit_there, unit_written}
use Rattle.dbtg_step.proofs.TheCore.Work.{IsAtWork, Rests, never_waits, stays_at_work}
use Rattle.dbtg_step.proofs.MadeWhole.SerialLaw.{between, entries_made, is_opening, order, same_history}
use Rattle.dbtg_step.proofs.MadeWhole.TurnsTaken.{events_more, more_alone, turns_run}
use Rattle.dbtg_step.proofs.MadeWhole.Wholes.{making}

-- WHAT IS LEFT OF THE SCRIPTS

-- a unit that has nothing left has no less after its turn
pub set_nothing : (left : List (List Statement)) (u : ℕ) → left_at left u ≡ [] → with_unit_at left u [] ≡ left
unfolding unit_at with_unit_at
set_nothing left zero e = refl
set_nothing left (suc n) e = at left n e
  where
    at : (left : List (List Statement)) (n : ℕ) → unwrap_or (slice_get left n) [] ≡ [] → slice_set left n [] ≡ left
    at [] n e = refl
    at (xs ∷ left) zero e = ap (λ ys. ys ∷ left) (sym e)
    at (xs ∷ left) (suc n) e = ap (λ ls. xs ∷ ls) (at left n e)

left_count : (left : List (List Statement)) (u : ℕ) → unwrap_or (unit_at (map length left) u) 0 ≡ length (left_at left u)
left_count left u = ap (λ o. unwrap_or o 0) (map_at length left u) ∙ by (unit_at left u)
  where
    by : (o : Option (List Statement)) → unwrap_or (option_map length o) 0 ≡ length (unwrap_or o [])
    by None = refl
    by (Some xs) = refl

-- the turns in which a statement is made
pub units_in_turn : (turns : List ℕ) (left : List (List Statement))
    → map (λ (p : ℕ × Statement). p.0) (statements_in_turn left turns) ≡ made_turns (map length left) turns
unfolding statements_in_turn made_turns
units_in_turn [] left = refl
units_in_turn (u ∷ us) left = by (left_at left u) refl (units_in_turn us)
  where
    by : (xs : List Statement) → left_at left u ≡ xs
        → ((ls : List (List Statement)) → map (λ (p : ℕ × Statement). p.0) (statements_in_turn ls us) ≡ made_turns (map length ls) us)
        → map (λ (p : ℕ × Statement). p.0) (map (λ x. (u, x)) (take 1 (left_at left u)) ++ statements_in_turn (after_turn left u) us)
        ≡ cond (nat_lt 0 (unwrap_or (unit_at (map length left) u) 0))
        (u ∷ made_turns (with_unit_at (map length left) u (unwrap_or (unit_at (map length left) u) 0 - 1)) us)
        (made_turns (map length left) us)
    by [] e more =
        (λ i. map (λ (p : ℕ × Statement). p.0) (map (λ x. (u, x)) (take 1 (e i)) ++ statements_in_turn (with_unit_at left u (drop 1 (e i))) us))
        ∙ ap (λ ls. map (λ (p : ℕ × Statement). p.0) (statements_in_turn ls us)) (set_nothing left u e)
        ∙ more left
        ∙ sym (ap (λ n. cond (nat_lt 0 n) (u ∷ made_turns (with_unit_at (map length left) u (n - 1)) us) (made_turns (map length left) us))
        (left_count left u ∙ ap length e))
    by (x ∷ xs) e more =
        let count : unwrap_or (unit_at (map length left) u) 0 ≡ suc (length xs) = left_count left u ∙ ap length e in
        let many : nat_lt 0 (unwrap_or (unit_at (map length left) u) 0) ≡ true = lt-ltb 0 _ (omega (arith, count)) in
        let less : unwrap_or (unit_at (map length left) u) 0 - 1 ≡ length xs = omega (arith, count) in
        (λ i. map (λ (p : ℕ × Statement). p.0) (map (λ x. (u, x)) (take 1 (e i)) ++ statements_in_turn (with_unit_at left u (drop 1 (e i))) us))
        ∙ ap (λ ns. u ∷ ns) (more (with_unit_at left u xs) ∙ ap (λ ls. made_turns ls us) (map_set length left u xs))
        ∙ sym (λ i. cond (many i) (u ∷ made_turns (with_unit_at (map length left) u (less i)) us) (made_turns (map length left) us))

-- a unit that does not exist has nothing left
pub nothing_beyond : (left : List (List Statement)) (u : ℕ) → (u ≡ 0) ⊎ (length left < u) → left_at left u ≡ []
nothing_beyond left u h = ap (λ o. unwrap_or o []) (no_unit left u h)

-- the next statement is one of a unit that exists, and fits
pub record IsNext (schema : Lists) (left : List (List Statement)) (u : ℕ) (x : Statement) : Type 0 where
  pub numbered : 0 < u
  pub within : u ≤ length left
  pub fitting : scripts_fit schema left ≡ true → fits schema x ≡ true

pub is_next : (schema : Lists) (left : List (List Statement)) (u : ℕ) (x : Statement) → x ∷ [] ≡ take 1 (left_at left u) → IsNext schema left u x
unfolding unit_at
is_next schema left zero x e = absurd (cc (e))
is_next schema left (suc n) x e = let h = at left n e in record { numbered = omega arith; within = (let l = h.0 in omega (arith, l)); fitting = h.1 }
  where
    at : (left : List (List Statement)) (n : ℕ) → x ∷ [] ≡ take 1 (unwrap_or (slice_get left n) [])
        → (n < length left) × (scripts_fit schema left ≡ true → fits schema x ≡ true)
    at [] n e = absurd (cc (e))
    at ([] ∷ left) zero e = absurd (cc (e))
    at ((y ∷ ys) ∷ left) zero e = let same : y ≡ x = cc (e) in (omega arith, λ h. subst (λ z. fits schema z ≡ true) same (and_parts _ _ (and_parts _ _ h).0).0)
    at (xs ∷ left) (suc n) e = let h = at left n e in (let l = h.0 in omega (arith, l), λ f. h.1 (and_parts _ _ f).1)

-- what is left then fits
pub left_fits : (schema : Lists) (left : List (List Statement)) (u : ℕ) → scripts_fit schema left ≡ true → scripts_fit schema (after_turn left u) ≡ true
unfolding unit_at with_unit_at
left_fits schema left zero h = h
left_fits schema left (suc n) h = at left n h
  where
    behind : (xs : List Statement) → list_all (fits schema) xs ≡ true → list_all (fits schema) (drop 1 xs) ≡ true
    behind [] h = h
    behind (x ∷ xs) h = (and_parts _ _ h).1

    at : (left : List (List Statement)) (n : ℕ) → scripts_fit schema left ≡ true
        → scripts_fit schema (slice_set left n (drop 1 (unwrap_or (slice_get left n) []))) ≡ true
    at [] n h = h
    at (xs ∷ left) zero h = let p = and_parts _ _ h in and_from _ _ (behind xs p.0) p.1
    at (xs ∷ left) (suc n) h = let p = and_parts _ _ h in and_from _ _ p.0 (at left n p.1)

-- no unit comes or goes
pub left_many : (left : List (List Statement)) (u : ℕ) (xs : List Statement) → length (with_unit_at left u xs) ≡ length left
unfolding with_unit_at
left_many left zero xs = refl
left_many left (suc n) xs = length-set left n xs

-- the statements of the first turn come first
one_more : (left : List (List Statement)) (u : ℕ) (us : List ℕ)
    → made_in_turn left u ++ statements_in_turn (after_turn left u) us ≡ statements_in_turn left (u ∷ us)
unfolding statements_in_turn
one_more left u us = refl

-- one turn more
pub one_turn_more : (mid new : Making) (left after : List (List Statement)) (turns : List ℕ) (i d : ℕ) (all : List (ℕ × Statement)) → i < length turns
    → HasMadeAll mid (made_in_turn left (get_or turns i d)) new → after ≡ after_turn left (get_or turns i d)
    → statements_of mid.history ++ statements_in_turn left (drop i turns) ≡ all
    → statements_of new.history ++ statements_in_turn after (drop (i + 1) turns) ≡ all
one_turn_more mid new left after turns i d all below m is h =
    let u = get_or turns i d in
    let rest = drop (i + 1) turns in
    (λ k. m.statements_are k ++ statements_in_turn (is k) rest)
    ∙ append_assoc (statements_of mid.history) (made_in_turn left u) (statements_in_turn (after_turn left u) rest)
    ∙ ap (λ ps. statements_of mid.history ++ ps) (one_more left u rest)
    ∙ sym (at_drop_more (λ us. statements_of mid.history ++ statements_in_turn left us) turns i d below) ∙ h

-- no turn more
no_more : (left : List (List Statement)) → statements_in_turn left [] ≡ []
unfolding statements_in_turn
no_more left = refl

pub turns_done : (m : Making) (left : List (List Statement)) (turns : List ℕ) (i : ℕ) (all : List (ℕ × Statement)) → length turns ≤ i
    → statements_of m.history ++ statements_in_turn left (drop i turns) ≡ all → statements_of m.history ≡ all
turns_done m left turns i all past h =
    sym (append-nil (statements_of m.history)) ∙ ap (λ ps. statements_of m.history ++ ps) (sym (no_more left))
    ∙ sym (at_drop_all (λ us. statements_of m.history ++ statements_in_turn left us) turns i past) ∙ h

-- SCRIPTS BACKWARDS, OF WHICH THE LAST STATEMENT IS TAKEN

pub last_taken : (all rest : List Statement) (o : Option Statement) (n k : ℕ)
    → all ≡ rest ++ option_to_list o → n ≡ length all → MatchOption o ((n ≡ 0) × (k ≡ 0)) (λ _. k + 1 ≡ n)
    → (option_to_list o ≡ take 1 (reverse all)) × (reverse rest ≡ drop 1 (reverse all))
last_taken all rest None n k e same m =
    let none : all ≡ [] = nil_from_length all (sym same ∙ m.0) in
    let before : rest ≡ [] = sym (append-nil rest) ∙ sym e ∙ none in
    (ap (λ (xs : List Statement). take 1 (reverse xs)) (sym none), ap reverse before ∙ ap (λ (xs : List Statement). drop 1 (reverse xs)) (sym none))
last_taken all rest (Some x) n k e same m =
    let turned : reverse all ≡ x ∷ reverse rest = ap reverse e ∙ reverse-append rest (x ∷ []) in
    (ap (take 1) (sym turned), ap (drop 1) (sym turned))

module _ {X : Type 0} (f : X → List Statement) (left : List X) (u : ℕ) (here : X) where
  pub left_there : 0 < u → u ≤ length left → here ≡ get_or left (u - 1) here → left_at (map f left) u ≡ f here
  left_there low high e =
      let found = slice_get_read left (length left) (u - 1) here refl (omega (arith, low, high)) e in
      ap (λ o. unwrap_or o []) (map_at f left u ∙ ap (option_map f) (unit_there left u here low found))

  pub left_written : 0 < u → map f (slice_set left (u - 1) here) ≡ with_unit_at (map f left) u (f here)
  left_written low = ap (map f) (unit_written left u here low) ∙ map_set f left u here

-- ONE TURN

module _ (schema : Lists) (capacity : ℕ) (opening : SequentialState (network schema capacity)) where
  abbrev M : Type 0
  M = State (network schema capacity)

  abbrev U : Type 0
  U = UnitState (network schema capacity)

  -- what each unit has left of its script
  abbrev pub lefts : M → List (List Statement)
  lefts s = map (λ (x : U). x.remaining) s.units

  left_is : (s : M) (u : ℕ) → left_at (lefts s) u ≡ left_of (network schema capacity) (unit_at s.units u)
  left_is s u = ap (λ o. unwrap_or o []) (map_at (λ (x : U). x.remaining) s.units u) ∙ by (unit_at s.units u)
    where
      by : (o : Option U) → unwrap_or (option_map (λ (x : U). x.remaining) o) [] ≡ left_of (network schema capacity) o
      by None = refl
      by (Some x) = refl

  -- a lawful state in which every unit is between statements
  pub record IsBetweenAll (s : M) : Type 0 where
    pub lawful : Lawful (network schema capacity) opening s
    pub in_turn : AllInTurn (network schema capacity) name_below s
    pub between : AllBetween (network schema capacity) s

  -- a turn of unit u, in which its next statement is made, if it has one
  pub record HasTurn (s : M) (u : ℕ) : Type 0 where
    pub last : M
    pub moves : List Move
    pub is_turn : IsTurn (network schema capacity) opening u s moves last
    pub rests : IsBetweenAll last
    pub made : made_by schema capacity last ≡ made_by schema capacity s ++ map (λ x. (u, x)) (take 1 (left_at (lefts s) u))
    pub left : lefts last ≡ after_turn (lefts s) u

  -- a unit that has nothing left does nothing
  no_turn : (s : M) (u : ℕ) → IsBetweenAll s → left_of (network schema capacity) (unit_at s.units u) ≡ [] → HasTurn s u
  no_turn s u rests none =
      let nothing : left_at (lefts s) u ≡ [] = left_is s u ∙ none in
      record {
        last = s;
        moves = [];
        is_turn = subst (λ xs. IsTurnOf (network schema capacity) opening u xs s [] s) (sym none) (refl, refl);
        rests = rests;
        made = sym (append-nil (made_by schema capacity s)) ∙ ap (λ xs. made_by schema capacity s ++ map (λ x. (u, x)) (take 1 xs)) (sym nothing);
        left = sym (set_nothing (lefts s) u nothing) ∙ ap (λ (xs : List Statement). with_unit_at (lefts s) u (drop 1 xs)) (sym nothing);
      }

  module _ (sound : IsSound schema) (s : M) (u : ℕ) (first : U) (at : unit_at s.units u ≡ Some first)
      (x : Statement) (xs : List Statement) (r : first.remaining ≡ x ∷ xs) where
    -- the unit is on its way through its statement
    record IsUnderWay (now : M) : Type 0 where
      pub lawful : Lawful (network schema capacity) opening now
      pub in_turn : AllInTurn (network schema capacity) name_below now
      pub others : (w : ℕ) (other : U) → w ≢ u → unit_at now.units w ≡ Some other → other.progress ≡ None
      pub steps : StepsAlone (network schema capacity) opening s u first now
      pub begun : Unticketed (network schema capacity) steps.new.progress → length xs < length steps.new.remaining
      pub moves : List Move
      pub events : AreEvents (network schema capacity) opening u s moves now

    sets_out : IsBetweenAll s → IsUnderWay s
    unfolding AreEvents
    sets_out rests = record {
      lawful = rests.lawful;
      in_turn = rests.in_turn;
      others = λ w other n e. rests.between w other e;
      steps = record { new = first; units = sym (set_same s.units u first at); drawn = inl (refl, refl) };
      begun = λ q. (let none = rests.between u first at in let mid = q.1 in absurd (cc (none, mid)));
      moves = [];
      events = refl;
    }

    module _ (now : M) (way : IsUnderWay now) where
      abbrev new : U
      new = way.steps.new

      there : unit_at now.units u ≡ Some new
      there = subst (λ us. unit_at us u ≡ Some new) (sym way.steps.units) (set_at s.units u first new at)

      -- the statement is made, and the unit is between statements again
      abbrev IsOver : Type 0
      IsOver = (new.progress ≡ None) × DrawsNext (network schema capacity) opening s u first new now

      -- it is not
      record IsBusy : Type 0 where
        pub going : Rests schema capacity new → ⊥
        pub undrawn : new.progress ≡ None → length xs < length new.remaining

      over_or_busy : IsOver ⊎ IsBusy
      over_or_busy = by new.progress refl way.steps.drawn
        where
          by : (p : Option (StatementProgress (network schema capacity))) → new.progress ≡ p
              → ((now.history ≡ s.history) × (new.remaining ≡ first.remaining)) ⊎ DrawsNext (network schema capacity) opening s u first new now
              → IsOver ⊎ IsBusy
          by None e (inr d) = inl (e, d)
          by None e (inl p) =
              let all : new.remaining ≡ x ∷ xs = p.1 ∙ r in
              inr (record { going = λ h. (let none = h.ended in absurd (cc (all, none))); undrawn = λ q. (let n = ap length all in omega (arith, n)) })
          by (Some w) e d = inr (record { going = λ h. (let none = h.between in absurd (cc (e, none))); undrawn = λ none. absurd (cc (e, none)) })

      over : IsOver → HasTurn s u
      over o =
          let d = o.1 in
          let parts : d.x ∷ d.xs ≡ x ∷ xs = sym d.before ∙ r in
          let own : d.x ≡ x = cc (parts) in
          let rest : d.xs ≡ xs = cc (parts) in
          let here : left_at (lefts s) u ≡ x ∷ xs = left_is s u ∙ ap (left_of (network schema capacity)) at ∙ r in
          record {
            last = now;
            moves = way.moves;
            is_turn = subst (λ ys. IsTurnOf (network schema capacity) opening u ys s way.moves now) (sym (ap (left_of (network schema capacity)) at ∙ r))
                (way.events, record { state = new; found = there; between = o.0; left = d.after ∙ rest });
            rests = record { lawful = way.lawful; in_turn = way.in_turn; between = all_between };
            made = ap (map (λ (e : HistoryEntry (network schema capacity)). (e.unit, e.statement))) d.history
                ∙ map-append (λ (e : HistoryEntry (network schema capacity)). (e.unit, e.statement)) s.history (d.entry ∷ [])
                ∙ (λ i. made_by schema capacity s ++ (d.unit i, (d.statement ∙ own) i) ∷ [])
                ∙ ap (λ ys. made_by schema capacity s ++ map (λ y. (u, y)) (take 1 ys)) (sym here);
            left = ap (map (λ (y : U). y.remaining)) way.steps.units ∙ map_set (λ (y : U). y.remaining) s.units u new
                ∙ ap (with_unit_at (lefts s) u) (d.after ∙ rest) ∙ ap (λ (ys : List Statement). with_unit_at (lefts s) u (drop 1 ys)) (sym here);
          }
        where
          all_between : AllBetween (network schema capacity) now
          all_between w other e = elim (eqb_tells w u) [
            | inl q ↦ ap (λ (y : U). y.progress) (same_Some other new (sym e ∙ ap (unit_at now.units) q.1 ∙ there)) ∙ o.0
            | inr q ↦ way.others w other q.1 e
          ]

      abbrev work : IsAtWork schema capacity u now
      work = record { state = new; found = there; others = way.others; in_turn = way.in_turn }

      -- one event more
      goes_on : (t : M) → step (network schema capacity) opening now u ≡ MovedTo t → IsBusy → IsUnderWay t
      unfolding IfMoved more_alone
      goes_on t moved busy =
          let few : length first.remaining ≤ suc (length xs) = (let n = ap length r in omega (arith, n)) in
          let then = stays_at_work schema capacity sound opening now way.lawful u work t moved in
          let one = subst (λ q. IfMoved (network schema capacity) q (OneStep (network schema capacity) opening now u new)) moved
          (one_step (network schema capacity) opening now u new there) in
          record {
            lawful = subst (λ q. IfMoved (network schema capacity) q (Lawful (network schema capacity) opening)) moved
                (step_keeps (network schema capacity) (network_is_sequential schema capacity sound) opening now way.lawful u);
            in_turn = then.in_turn;
            others = then.others;
            steps = more_alone (network schema capacity) opening u (length xs) s now t first way.steps one few way.begun;
            begun = λ q. (let z = one.undrawn q in elim z.1 [
              | inl none ↦ subst (λ (ys : List Statement). length xs < length ys) (sym z.0) (busy.undrawn none)
              | inr mid ↦ subst (λ (ys : List Statement). length xs < length ys) (sym z.0) (way.begun mid)
            ]);
            moves = way.moves ++ Step u ∷ [];
            events = events_more (network schema capacity) opening u s now t way.moves way.events moved;
          }

    comes_round : (now end : M) → IsSteppedOut (network schema capacity) opening u now end → IsUnderWay now → HasTurn s u
    comes_round now end (AtRest idle) way = elim (over_or_busy now way) [
      | inl o ↦ over now way o
      | inr b ↦ (let g = never_waits schema capacity sound opening now way.lawful u (work now way) b.going in let moved = g.moves in absurd (cc (idle, moved)))
    ]
    comes_round now end (Onward {t = t} moved on) way = elim (over_or_busy now way) [
      | inl o ↦ over now way o
      | inr b ↦ comes_round t end on (goes_on now way t moved b)
    ]

    a_turn : IsBetweenAll s → HasTurn s u
    a_turn rests =
        let way = sets_out rests in
        let out = comes_out schema capacity sound opening u s rests.lawful (work s way) in
        comes_round s out.0 out.1.steps way

  -- TURNS

  turn : IsSound schema → (s : M) (u : ℕ) → IsBetweenAll s → HasTurn s u
  turn sound s u rests = by (unit_at s.units u) refl
    where
      has : (first : U) → unit_at s.units u ≡ Some first → (xs : List Statement) → first.remaining ≡ xs → HasTurn s u
      has first at [] r = no_turn s u rests (ap (left_of (network schema capacity)) at ∙ r)
      has first at (x ∷ xs) r = a_turn sound s u first at x xs r rests

      by : (o : Option U) → unit_at s.units u ≡ o → HasTurn s u
      by None at = no_turn s u rests (ap (left_of (network schema capacity)) at)
      by (Some first) at = has first at first.remaining refl

  pub record HaveTurns (s : M) (turns : List ℕ) : Type 0 where
    pub last : M
    pub moves : List Move
    pub are_turns : AreTurns (network schema capacity) opening turns s moves last
    pub rests : IsBetweenAll last
    pub made : made_by schema capacity last ≡ made_by schema capacity s ++ statements_in_turn (lefts s) turns

  -- turns stand for moves
  pub have_turns : IsSound schema → (turns : List ℕ) (s : M) → IsBetweenAll s → HaveTurns s turns
  unfolding AreTurns statements_in_turn
  have_turns sound [] s rests = record { last = s; moves = []; are_turns = (refl, refl); rests = rests; made = sym (append-nil (made_by schema capacity s)) }
  have_turns sound (u ∷ us) s rests =
      let one = turn sound s u rests in
      let more = have_turns sound us one.last one.rests in
      record {
        last = more.last;
        moves = one.moves ++ more.moves;
        are_turns = (one.moves, more.moves, one.last, refl, one.is_turn, more.are_turns);
        rests = more.rests;
        made = more.made ∙ (λ i. one.made i ++ statements_in_turn (one.left i) us)
            ∙ append_assoc (made_by schema capacity s) (map (λ x. (u, x)) (take 1 (left_at (lefts s) u))) (statements_in_turn (after_turn (lefts s) u) us);
      }

-- THE RUN

module _ (schema : Lists) (capacity : ℕ) (sound : IsSound schema)
    (scripts : List (List Statement)) (fit : scripts_fit schema scripts ≡ true) (turns : List ℕ) where
  abbrev before : State (network schema capacity)
  before = machine_of schema capacity scripts

  abbrev opened : SequentialState (network schema capacity)
  opened = opening_of schema capacity (length scripts)

  all_between : IsBetweenAll schema capacity opened before
  all_between = record {
    lawful = opening_is_lawful (network schema capacity) (network_is_sequential schema capacity sound) opened before
        (is_opening schema capacity sound scripts fit);
    in_turn = order schema capacity sound scripts fit;
    between = between schema capacity sound scripts fit;
  }

  lefts_from : (n : ℕ) (all : List (List Statement)) → map (λ (x : UnitState (network schema capacity)). x.remaining) (units_from schema capacity n all) ≡ all
  lefts_from n [] = refl
  lefts_from n (script ∷ all) = ap (λ ls. script ∷ ls) (lefts_from (suc n) all)

  turned : HaveTurns schema capacity opened before turns
  turned = have_turns schema capacity opened sound turns before all_between

  abbrev last : State (network schema capacity)
  last = machine_after schema capacity scripts turned.moves

  last_is : turned.last ≡ last
  unfolding machine_after
  last_is = turns_run (network schema capacity) opened turns before turned.last turned.moves turned.are_turns

  history_made : statements_of (map entry_of last.history) ≡ statements_in_turn scripts turns
  history_made =
      entries_made schema capacity last.history
      ∙ ap (λ (t : State (network schema capacity)). made_by schema capacity t) (sym last_is)
      ∙ turned.made
      ∙ ap (λ ls. statements_in_turn ls turns) (lefts_from 1 scripts)

  sequential : IsSequential schema capacity scripts (map entry_of last.history)
      (image_of schema capacity (machine_replay (network schema capacity) opened last.history).database)
      (map (λ (x : UnitState (network schema capacity)). x.unit) last.units)
  sequential =
      let legal = opening_is_legal schema capacity (length scripts) in
      run_is_sequential schema capacity scripts legal fit (network_is_sequential schema capacity sound) turned.moves

  units_made : (es : List Entry) → map (λ (e : Entry). e.unit) es ≡ map (λ (p : ℕ × Statement). p.0) (statements_of es)
  units_made [] = refl
  units_made (e ∷ es) = ap (λ ns. e.unit ∷ ns) (units_made es)

  -- turns whose statements were made whole are a run by turns
  pub turned_whole : (m : Making) (given : Run)
      → HasMadeAll (making schema capacity (length scripts) []) (statements_in_turn scripts turns) m → IsMadeRun m given
      → (moves : List Move) × IsRunByTurns schema capacity scripts turns moves given
  turned_whole m given all run =
      let handed = subst (λ (k : Making). IsMadeRun k given) all.new_is run in
      let made : statements_of given.history ≡ statements_in_turn scripts turns = ap statements_of handed.history_is ∙ all.statements_are in
      let tickets : TicketsInOrder given.history = subst TicketsInOrder (sym handed.history_is) handed.history_of.tickets in
      let answers : AnswersHold schema capacity (opening_state schema (length scripts)) given.history =
      subst (AnswersHold schema capacity (opening_state schema (length scripts))) (sym handed.history_is) handed.history_of.answers_hold in
      let same : given.history ≡ map entry_of last.history =
      same_history schema capacity (opening_state schema (length scripts)) given.history (map entry_of last.history)
      tickets sequential.tickets answers sequential.answers (made ∙ sym history_made) in (
        turned.moves,
        record {
          results_are = handed.results_are;
          moves_are = subst (AreTurns (network schema capacity) opened turns before turned.moves) last_is turned.are_turns;
          between = subst (AllBetween (network schema capacity)) last_is turned.rests.between;
          history_is = same;
          in_turn = units_made given.history ∙ ap (map (λ (p : ℕ × Statement). p.0)) made ∙ units_in_turn turns scripts;
          sequential = record {
            tickets = tickets;
            answers = answers;
            image_is = handed.image_is
                ∙ ap (λ (es : List Entry). image_of schema capacity (replay schema capacity (opening_state schema (length scripts)) es).database)
                (sym handed.history_is);
            units_are = handed.units_are
                ∙ ap (λ (es : List Entry). (replay schema capacity (opening_state schema (length scripts)) es).units) (sym handed.history_is);
            scripts_begin = λ u script at.
                subst (λ (es : List Entry). (remaining : List Statement) × (map (λ (e : Entry). e.statement) (entries_of u es) ++ remaining ≡ script))
                (sym same) (sequential.scripts_begin u script at);
          };
        },
      )
