-- Taking back the last statement leads to the database before it, and leaves the ways back over the statements before.
-- n is the number of a statement, from 0.
use Rattle.std.proofs.Common.{ℕ, zero, suc, ◌+◌, ◌-◌, ◌<◌, ◌≤◌, ◌≡◌, Bool, true, List, [], ◌∷◌, ◌++◌, length, take, Option, Some, None, ◌⊎◌, inl, inr, slice_get, slice_set, refl, sym, ap, ◌∙◌, subst, arith, length-append}
use Rattle.std.specs.Prelude.{option_map}
use Rattle.std.specs.List.{list_all}
use Rattle.std.proofs.lemmas.Bool.{and_parts, cases_lt}
use Rattle.std.proofs.lemmas.List.{length-set, length-take-le, take-append-le, take-take, take_all, take_at}
use Rattle.std.proofs.lemmas.List.Folds.{list_all-append}
use Rattle.std.proofs.lemmas.Option.{none-some, same_Some, slice_get_within}
use Rattle.dbtg_schema.specs.Lists.{Lists}
use Rattle.dbtg_cells.specs.CellNumbers.{is_cell}
use Rattle.dbtg_cells.specs.declared.name.CellName.{CellName}
use Rattle.dbtg_cells.proofs.Public.{at_left, get_behind, there_is}
use Rattle.dbtg_unit.specs.declared.statement.Statement.{Statement}
use Rattle.dbtg_unit.specs.declared.unit.Entry.{Entry}
use Rattle.dbtg_unit.specs.declared.unit.Unit.{Unit}
use Rattle.dbtg_unit.specs.Database.Laws.Replay.{IsHistoryOf, State, after_effect, after_entry, effect_of_unit, opening_state, replay, unit_of}
use Rattle.dbtg_unit.specs.Database.Laws.Replaying.{ReplaysOneMore}
use Rattle.dbtg_unit.specs.Database.Statements.Effect.{StatementEffect, effect}
use Rattle.dbtg_unit.specs.Database.Statements.Fits.{fits}
use Rattle.dbtg_unit.specs.Hands.Hands.{Hands}
use Rattle.dbtg_unit.specs.Hands.Local.{Agrees, AllAgree, holds}
use Rattle.dbtg_unit.proofs.Public.{holds_any, opening_length, replay_keeps_count, replays_one_more}
use Rattle.dbtg_step.specs.declared.way_back.WayBack.{WayBack}
use Rattle.dbtg_step.specs.Core.Reversible.{OnlyChanged, OnlyLastChanged, made_first}
use Rattle.dbtg_step.specs.Core.Whole.{HasMade, Making, state_now}
use Rattle.dbtg_step.specs.Inside.Reversible.{HasWaysBack, IsWayBack, LeadBack, LeadsOver, with_copies}
use Rattle.dbtg_step.specs.Core.Bare.{HoldsAll, IsWhole}
use Rattle.dbtg_step.proofs.EachEvent.UnitLists.{set_same_at}
use Rattle.dbtg_step.proofs.MadeWhole.Audits.{newest_of}
use Rattle.dbtg_step.proofs.MadeWhole.WaysBack.{names_put_back, put_back_agree}
use Rattle.dbtg_step.proofs.MadeWhole.Wholes.{found_unit, held_is_cell, held_once, maker_agrees, making}

-- LISTS

-- what a list has at an index, its beginning has that reaches there; and the other way round
first_at : {X : Type 0} (xs : List X) (n : ℕ) (x : X) → slice_get xs n ≡ Some x → slice_get (take (suc n) xs) n ≡ Some x
first_at [] n x e = absurd (cc (e))
first_at (y ∷ ys) zero x e = e
first_at (y ∷ ys) (suc n) x e = first_at ys n x e

at_first : {X : Type 0} (k : ℕ) (xs : List X) (n : ℕ) (x : X) → slice_get (take k xs) n ≡ Some x → slice_get xs n ≡ Some x
at_first zero xs n x e = absurd (cc (e))
at_first (suc k) [] n x e = absurd (cc (e))
at_first (suc k) (y ∷ ys) zero x e = e
at_first (suc k) (y ∷ ys) (suc n) x e = at_first k ys n x e

-- what is at an index with one more at the end
at_more : {X : Type 0} (xs : List X) (y : X) (k : ℕ) (x : X) → slice_get (xs ++ y ∷ []) k ≡ Some x → (slice_get xs k ≡ Some x) ⊎ ((k ≡ length xs) × (y ≡ x))
at_more [] y zero x e = inr (refl, same_Some y x e)
at_more [] y (suc k) x e = absurd (cc (e))
at_more (z ∷ zs) y zero x e = inl e
at_more (z ∷ zs) y (suc k) x e = elim (at_more zs y k x e) [ inl h ↦ inl h | inr h ↦ inr (ap suc h.0, h.1) ]

set_over : {X : Type 0} (xs : List X) (i : ℕ) (x y : X) → slice_set (slice_set xs i y) i x ≡ slice_set xs i x
set_over [] i x y = refl
set_over (z ∷ zs) zero x y = refl
set_over (z ∷ zs) (suc i) x y = ap (λ ys. z ∷ ys) (set_over zs i x y)

-- WAYS

-- a way leads over a statement of each history that begins alike
over_alike : (m p : Making) (n : ℕ) (way : WayBack) → made_first n m ≡ made_first n p → made_first (suc n) m ≡ made_first (suc n) p → LeadsOver m n way → LeadsOver p n way
over_alike m p n way before after over = record {
  cells = subst (λ (a : Making). LeadBack a.schema a.capacity (state_now a).database (state_now (made_first (suc n) p)).database way.cells) before
      (subst (λ (b : Making). LeadBack m.schema m.capacity (state_now (made_first n m)).database (state_now b).database way.cells) after over.cells);
  only = subst (λ (a : Making). OnlyChanged a.schema a.capacity way.names (state_now a).database (state_now (made_first (suc n) p)).database) before
      (subst (λ (b : Making). OnlyChanged m.schema m.capacity way.names (state_now (made_first n m)).database (state_now b).database) after over.only);
  are_cells = subst (λ (a : Making). list_all (is_cell a.schema a.capacity) way.names ≡ true) before over.are_cells;
  once = over.once;
  unit = λ entry at.
      let there = at_first (suc n) m.history n entry (ap (λ (b : Making). slice_get b.history n) after ∙ first_at p.history n entry at) in
      subst (λ (a : Making). unit_of (state_now a) entry.unit ≡ Some way.unit) before (over.unit entry there);
}

first_of_first : (m : Making) (n k : ℕ) → n ≤ k → made_first n (made_first k m) ≡ made_first n m
first_of_first m n k l = ap (λ (h : List Entry). record m { history = h }) (take-take n k m.history l)

-- with one more statement
abbrev later : Making → Entry → Making
later m entry = record m { history = m.history ++ entry ∷ [] }

begins : (m : Making) (entry : Entry) (n : ℕ) → n ≤ length m.history → made_first n m ≡ made_first n (later m entry)
begins m entry n l = ap (λ (h : List Entry). record m { history = h }) (sym (take-append-le n m.history (entry ∷ []) l))

-- the ways back, with the way over it
one_more_way : (m : Making) (entry : Entry) (ways : List WayBack) (way : WayBack) → HasWaysBack m ways → LeadsOver (later m entry) (length m.history) way
    → HasWaysBack (later m entry) (ways ++ way ∷ []) × (length (m.history ++ entry ∷ []) - length (ways ++ way ∷ []) ≡ length m.history - length ways)
one_more_way m entry ways way has over =
    let few = has.few in
    let longer = length-append m.history (entry ∷ []) in
    let more = length-append ways (way ∷ []) in (
      record {
        few = omega (arith, few, longer, more);
        each = λ k w at. elim (at_more ways way k w at) [
          | inl there ↦
              let within = slice_get_within ways k w there in
              let n : ℕ = length m.history - length ways + k in
              let number : length m.history - length ways + k ≡ length (later m entry).history - length (ways ++ way ∷ []) + k = omega (arith, longer, more) in
              let below : suc (length m.history - length ways + k) ≤ length m.history = omega (arith, few, within) in
              subst (λ o. LeadsOver (later m entry) o w) number (over_alike m (later m entry) n w (begins m entry n (omega (arith, below))) (begins m entry (suc n) below) (has.each k w there))
          | inr here ↦
              let place = here.0 in
              let number : length m.history ≡ length (later m entry).history - length (ways ++ way ∷ []) + k = omega (arith, few, longer, more, place) in
              subst (λ o. LeadsOver (later m entry) o w) number (subst (LeadsOver (later m entry) (length m.history)) here.1 over)
        ];
      },
      omega (arith, few, longer, more),
    )

-- the same of a statement that is made; as many stay as before
pub made_one_more : (m p : Making) (u : ℕ) (x : Statement) (old ways : List WayBack) (way : WayBack) → HasWaysBack m old → HasMade m u x p → LeadsOver p (length m.history) way → ways ≡ old ++ way ∷ []
    → HasWaysBack p ways × (length p.history - length ways ≡ length m.history - length old)
made_one_more m p u x old ways way has made over are =
    let entry : Entry = record { ticket = length m.history; unit = u; statement = x; answer = made.outcome.answer } in
    subst (λ ws. HasWaysBack p ws × (length p.history - length ws ≡ length m.history - length old)) (sym are)
    (subst (λ (q : Making). LeadsOver q (length m.history) way → HasWaysBack q (old ++ way ∷ []) × (length q.history - length (old ++ way ∷ []) ≡ length m.history - length old)) (sym made.new_is) (one_more_way m entry old way has) over)

-- when so few are left that none is to be taken back
pub all_first : (m : Making) (count : ℕ) → length m.history ≤ count → made_first count m ≡ m
all_first m count l = ap (λ (h : List Entry). record m { history = h }) (take_all count m.history l)

-- the last way leads over the last statement; the others are those of the database before it
module _ (m : Making) (ways : List WayBack) (way : WayBack) (has : HasWaysBack m (ways ++ way ∷ [])) where
  ways_counted : length (ways ++ way ∷ []) ≡ length ways + 1
  ways_counted = length-append ways (way ∷ [])

  pub last_way : LeadsOver m (length m.history - 1) way
  last_way =
      let few = has.few in
      let l = ways_counted in
      let number : length m.history - length (ways ++ way ∷ []) + length ways ≡ length m.history - 1 = omega (arith, few, l) in
      subst (λ n. LeadsOver m n way) number (has.each (length ways) way (get_behind ways way []))

  abbrev left : Making
  left = made_first (length m.history - 1) m

  shorter : length left.history ≡ length m.history - 1
  shorter = length-take-le (length m.history - 1) m.history (omega arith)

  pub ways_before : HasWaysBack left ways
  ways_before =
      let few = has.few in
      let l = ways_counted in
      let s = shorter in
      record {
        few = omega (arith, few, l, s);
        each = λ k w at.
            let within = slice_get_within ways k w at in
            let n : ℕ = length left.history - length ways + k in
            let number : length m.history - length (ways ++ way ∷ []) + k ≡ length left.history - length ways + k = omega (arith, few, l, s) in
            let below : suc (length left.history - length ways + k) ≤ length m.history - 1 = omega (arith, few, l, s, within) in
            over_alike m left n w (sym (first_of_first m n (length m.history - 1) (omega (arith, below)))) (sym (first_of_first m (suc n) (length m.history - 1) below))
            (subst (λ o. LeadsOver m o w) number (has.each k w (at_left ways (way ∷ []) k w at)));
      }

  pub same_stays : length left.history - length ways ≡ length m.history - length (ways ++ way ∷ [])
  same_stays = let few = has.few in let l = ways_counted in let s = shorter in omega (arith, few, l, s)

  pub same_first : (count : ℕ) → count < length m.history → made_first count left ≡ made_first count m
  same_first count l = first_of_first m count (length m.history - 1) (omega (arith, l))

-- what the last way says of the last statement
module _ (m : Making) (ways : List WayBack) (has : HasWaysBack m ways) where
  pub over_last : (way : WayBack) → slice_get ways (length ways - 1) ≡ Some way → LeadsOver m (length m.history - 1) way
  over_last way at =
      let few = has.few in
      let within = slice_get_within ways (length ways - 1) way at in
      let number : length m.history - length ways + (length ways - 1) ≡ length m.history - 1 = omega (arith, few, within) in
      subst (λ n. LeadsOver m n way) number (has.each (length ways - 1) way at)

  pub last_changed : (way : WayBack) → slice_get ways (length ways - 1) ≡ Some way → OnlyLastChanged m way.names
  last_changed way at =
      let few = has.few in
      let within = slice_get_within ways (length ways - 1) way at in
      let all : made_first (suc (length m.history - 1)) m ≡ m = all_first m (suc (length m.history - 1)) (omega (arith, few, within)) in
      subst (λ (b : Making). OnlyChanged m.schema m.capacity way.names (state_now (made_first (length m.history - 1) m)).database (state_now b).database) all (over_last way at).only

  -- where there is none, all statements stay
  pub none_last : slice_get ways (length ways - 1) ≡ None → length ways ≡ 0
  none_last none = elim (cases_lt 0 (length ways)) [
    | inl more ↦ let last = there_is ways (length ways - 1) (omega arith) in absurd (none-some last.0 (sym none ∙ last.1))
    | inr few ↦ omega arith
  ]

-- what is held is a cell of the schema
held_are_cells : (schema : Lists) (capacity : ℕ) (hands : Hands) → HoldsAll schema capacity hands → (names : List CellName) → list_all (holds hands.cells) names ≡ true → list_all (is_cell schema capacity) names ≡ true
held_are_cells schema capacity hands all names held =
    ap (λ (p : CellName → Bool). list_all p names) (λ i c. (sym (held_is_cell schema capacity hands all c) ∙ holds_any hands.cells c) i) ∙ held

-- the way leads over a statement, once it is made
pub over_made : (m p : Making) (u : ℕ) (x : Statement) (r : Unit) (hands : Hands) (way : WayBack) → HasMade m u x p → unit_of (state_now m) u ≡ Some r → Agrees m.schema m.capacity (state_now m).database hands r
    → HoldsAll m.schema m.capacity hands → IsWayBack m.schema m.capacity r hands x way → LeadsOver p (length m.history) way
over_made m p u x r hands way made found agrees all back =
    let entry : Entry = record { ticket = length m.history; unit = u; statement = x; answer = made.outcome.answer } in
    let history : p.history ≡ m.history ++ entry ∷ [] = ap (λ (q : Making). q.history) made.new_is in
    let longer = length-append m.history (entry ∷ []) in
    let before : m ≡ made_first (length m.history) p
    = (λ i. record m { history = sym (take_at m.history (entry ∷ []) (length m.history) refl) i }) ∙ ap (made_first (length m.history)) (sym made.new_is) in
    let after : p ≡ made_first (suc (length m.history)) p = sym (all_first p (suc (length m.history)) (let k = ap length history in omega (arith, longer, k))) in
    let outcome : effect m.schema m.capacity (state_now m).database r x ≡ made.outcome
    = same_Some (effect m.schema m.capacity (state_now m).database r x) made.outcome (sym (ap (option_map (λ (unit : Unit). effect m.schema m.capacity (state_now m).database unit x)) found) ∙ made.outcome_is) in
    let database : (effect m.schema m.capacity (state_now m).database r x).database ≡ (state_now p).database
    = ap (λ (o : StatementEffect). o.database) outcome ∙ sym (ap (λ (s : State). s.database) made.state_is) in
    record {
      cells = subst (λ (a : Making). LeadBack a.schema a.capacity (state_now a).database (state_now (made_first (suc (length m.history)) p)).database way.cells) before
          (subst (λ (b : Making). LeadBack m.schema m.capacity (state_now m).database (state_now b).database way.cells) after
          (subst (λ db. LeadBack m.schema m.capacity (state_now m).database db way.cells) database (back.cells (state_now m).database agrees)));
      only = subst (λ (a : Making). OnlyChanged a.schema a.capacity way.names (state_now a).database (state_now (made_first (suc (length m.history)) p)).database) before
          (subst (λ (b : Making). OnlyChanged m.schema m.capacity way.names (state_now m).database (state_now b).database) after
          (subst (λ db. OnlyChanged m.schema m.capacity way.names (state_now m).database db) database (back.only (state_now m).database agrees)));
      are_cells = subst (λ (a : Making). list_all (is_cell a.schema a.capacity) way.names ≡ true) before (held_are_cells m.schema m.capacity hands all way.names (back.held (state_now m).database agrees));
      once = back.once;
      unit = λ e at.
          let is = same_Some entry e (sym (get_behind m.history entry []) ∙ sym (ap (λ es. slice_get es (length m.history)) history) ∙ at) in
          subst (λ (f : Entry). unit_of (state_now (made_first (length m.history) p)) f.unit ≡ Some way.unit) is
          (subst (λ (a : Making). unit_of (state_now a) u ≡ Some way.unit) before (found ∙ ap Some (sym back.unit_is)));
    }

-- THE DATABASE

-- so does the way from a statement that was made on all cells
pub over_whole : (schema : Lists) (capacity : ℕ) (hands : Hands) (units : List Unit) (history : List Entry) (w : IsWhole schema capacity hands units history) (u : ℕ) (r : Unit) → 0 < u → slice_get units (u - 1) ≡ Some r
    → (x : Statement) (p : Making) (way : WayBack) → HasMade (making schema capacity (length units) history) u x p → IsWayBack schema capacity r hands x way → LeadsOver p (length history) way
over_whole schema capacity hands units history w u r numbered there x p way made back =
    over_made (making schema capacity (length units) history) p u x r hands way made (by u numbered (found_unit schema capacity hands units history w u r numbered there)) (maker_agrees schema capacity hands units history w u r numbered there) w.all
    back
  where
    by : (v : ℕ) → 0 < v → slice_get (state_now (making schema capacity (length units) history)).units (v - 1) ≡ Some r → unit_of (state_now (making schema capacity (length units) history)) v ≡ Some r
    by zero l e = absurd (omega (arith, l))
    by (suc k) l e = let index : k ≡ suc k - 1 = omega arith in ap (slice_get (state_now (making schema capacity (length units) history)).units) index ∙ e

-- the same where the maker is read from the units
pub over_read : (schema : Lists) (capacity : ℕ) (hands : Hands) (units : List Unit) (history : List Entry) (w : IsWhole schema capacity hands units history) (m : Making) → making schema capacity (length units) history ≡ m → (u : ℕ) (r : Unit) → 0 < u
    → slice_get units (u - 1) ≡ Some r → (x : Statement) (p : Making) (way : WayBack) → HasMade m u x p → IsWayBack schema capacity r hands x way → LeadsOver p (length m.history) way
over_read schema capacity hands units history w m view u r numbered there x p way made back =
    subst (λ (k : Making). HasMade k u x p → LeadsOver p (length k.history) way) view (λ h. over_whole schema capacity hands units history w u r numbered there x p way h back) made

-- an outcome of a unit is taken back by what the unit was
unit_put_back : (schema : Lists) (capacity : ℕ) (state : State) (entry : Entry) (r : Unit) → unit_of state entry.unit ≡ Some r → slice_set (after_entry schema capacity state entry).units (entry.unit - 1) r ≡ state.units
unit_put_back schema capacity state entry r found = by entry.unit found
  where
    by : (u : ℕ) → unit_of state u ≡ Some r → slice_set (after_effect state u (effect_of_unit schema capacity state u entry.statement)).units (u - 1) r ≡ state.units
    by zero e = absurd (cc (e))
    by (suc k) e =
        let o : StatementEffect = effect schema capacity state.database r entry.statement in
        let index : suc k - 1 ≡ k = omega arith in
        ap (λ (f : Option Unit). slice_set (after_effect state (suc k) (option_map (λ unit. effect schema capacity state.database unit entry.statement) f)).units (suc k - 1) r) e
        ∙ set_over state.units (suc k - 1) r o.unit ∙ ap (λ i. slice_set state.units i r) index ∙ set_same_at state.units k r e

-- a unit that is there has a number from 1 on
unit_numbered : (state : State) (u : ℕ) (r : Unit) → unit_of state u ≡ Some r → (0 < u) × (u ≤ length state.units)
unit_numbered state zero r e = absurd (cc (e))
unit_numbered state (suc k) r e = let l = slice_get_within state.units k r e in (omega arith, omega (arith, l))

module _ (schema : Lists) (capacity : ℕ) (hands : Hands) (units : List Unit) (history rest : List Entry) (entry : Entry) (way : WayBack) (w : IsWhole schema capacity hands units history) (are : history ≡ rest ++ entry ∷ [])
    (m : Making) (view : making schema capacity (length units) history ≡ m) (given : LeadsOver m (length m.history - 1) way) where
  over : LeadsOver (making schema capacity (length units) history) (length history - 1) way
  over = subst (λ (k : Making). LeadsOver k (length k.history - 1) way) (sym view) given

  abbrev first : State
  first = opening_state schema (length units)

  -- the state before the last statement
  abbrev earlier : State
  earlier = replay schema capacity first rest

  one_more : ReplaysOneMore schema capacity first rest entry
  one_more = replays_one_more schema capacity first rest entry

  entries_counted : length history ≡ length rest + 1
  entries_counted = ap length are ∙ length-append rest (entry ∷ [])

  earlier_is : state_now (made_first (length history - 1) (making schema capacity (length units) history)) ≡ earlier
  earlier_is = let l = entries_counted in ap (replay schema capacity first) (ap (take (length history - 1)) are ∙ take_at rest (entry ∷ []) (length history - 1) (omega (arith, l)))

  later_is : state_now (made_first (suc (length history - 1)) (making schema capacity (length units) history)) ≡ replay schema capacity first history
  later_is = let l = entries_counted in ap (replay schema capacity first) (take_all (suc (length history - 1)) history (omega (arith, l)))

  found : unit_of earlier entry.unit ≡ Some way.unit
  found = subst (λ (s : State). unit_of s entry.unit ≡ Some way.unit) earlier_is (over.unit entry (newest_of rest history entry are))

  -- its unit is one of the database
  pub taken_unit : (0 < entry.unit) × (entry.unit ≤ length units)
  taken_unit =
      let n = unit_numbered earlier entry.unit way.unit found in
      let l : length earlier.units ≡ length units = replay_keeps_count schema capacity first rest ∙ opening_length schema (length units) in
      (n.0, let k = n.1 in omega (arith, k, l))

  abbrev back : Hands
  back = record hands { cells = with_copies way.cells hands.cells }

  holds_all : HoldsAll schema capacity back
  holds_all = record { areas = w.all.areas; names = names_put_back way.cells hands.cells ∙ w.all.names }

  lead : LeadBack schema capacity earlier.database (replay schema capacity first history).database way.cells
  lead = subst (λ (s : State). LeadBack schema capacity s.database (replay schema capacity first history).database way.cells) earlier_is
      (subst (λ (s : State). LeadBack schema capacity (state_now (made_first (length history - 1) (making schema capacity (length units) history))).database s.database way.cells) later_is over.cells)

  units_back : slice_set units (entry.unit - 1) way.unit ≡ earlier.units
  units_back = ap (λ us. slice_set us (entry.unit - 1) way.unit) (w.units_are ∙ ap (λ (s : State). s.units) (ap (replay schema capacity first) are ∙ one_more.state_is)) ∙ unit_put_back schema capacity earlier entry way.unit found

  history_before : IsHistoryOf schema capacity (length units) rest
  history_before =
      let whole = subst (IsHistoryOf schema capacity (length units)) are w.history_of in
      record {
        tickets = one_more.tickets_before whole.tickets;
        fitting = (and_parts _ _ (sym (list_all-append (λ (e : Entry). fits schema e.statement) rest (entry ∷ [])) ∙ whole.fitting)).0;
        answers_hold = one_more.answers_before whole.answers_hold;
      }

  as_many : length (slice_set units (entry.unit - 1) way.unit) ≡ length units
  as_many = length-set units (entry.unit - 1) way.unit

  whole_back : IsWhole schema capacity back (slice_set units (entry.unit - 1) way.unit) rest
  whole_back =
      let state : replay schema capacity (opening_state schema (length (slice_set units (entry.unit - 1) way.unit))) rest ≡ earlier = ap (λ n. replay schema capacity (opening_state schema n) rest) as_many in
      record {
        sound = w.sound;
        history_of = subst (λ n. IsHistoryOf schema capacity n rest) (sym as_many) history_before;
        units_are = units_back ∙ ap (λ (s : State). s.units) (sym state);
        all = holds_all;
        cells = subst (λ (s : State). AllAgree schema capacity s.database back.cells) (sym state)
            (put_back_agree schema capacity earlier.database (replay schema capacity first history).database way.cells hands.cells lead w.cells (held_once schema capacity back holds_all));
      }

  pub whole_before : (new : Hands) → new ≡ back → IsWhole schema capacity new (slice_set units (entry.unit - 1) way.unit) rest
  whole_before new is = subst (λ (h : Hands). IsWhole schema capacity h (slice_set units (entry.unit - 1) way.unit) rest) (sym is) whole_back
