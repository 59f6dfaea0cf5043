-- Numbers of states, as they are made and kept.
-- m is a meeting, h is a history, o an order, os are orders, u a unit, c the name of a cell, n and k are numbers of states, d is a database.
use Rattle.std.proofs.Common.{◌≡◌, refl, sym, ◌∙◌, ap, subst, ℕ, zero, suc, ◌-◌, ◌<◌, false, List, [], ◌∷◌, ◌++◌, length, get_or, arith, inl, inr, take}
use Rattle.std.specs.Prelude.{Contains}
use Rattle.dbtg_cells.specs.declared.name.CellName.{CellName}
use Rattle.dbtg_unit.specs.declared.unit.Entry.{Entry}
use Rattle.dbtg_step.specs.Core.Reversible.{OnlyChanged, OnlyLastChanged}
use Rattle.dbtg_step.specs.Core.Whole.{Making}
use Rattle.dbtg_going.specs.declared.member.Going.{Going}
use Rattle.dbtg_states.specs.Numbers.{AreNumbers, Grow, IsNumberBut, Numbers, NumbersState}
use Rattle.dbtg_states.specs.Parts.{Parts, parts_in}
use Rattle.dbtg_states.proofs.States.Numbers.{but_units, stays_number}
use Rattle.dbtg_states.proofs.States.ShownParts.{unchanged_shown}
use Rattle.dbtg_explore.specs.Orders.{Meeting, history_of}
use Rattle.dbtg_explore.specs.States.{sequential_after}
use Rattle.dbtg_explore.specs.Inside.Parts.{AreNumbered, IsNumberOf, cell_part, parts_of, unit_part}
use Rattle.dbtg_explore.specs.Inside.Walks.{AreStanding}
use Rattle.dbtg_explore.proofs.Parts.{shown_first}
use Rattle.dbtg_explore.proofs.Searched.{contains_behind, contains_cases, contains_here, contains_none}

-- STATES

module _ (m : Meeting) where
  -- what a database says, spelled without versions
  parts_there : (d there : Making) (goings : List Going) → AreStanding m d goings → there ≡ d → parts_in false (length m.programs) there (unit_part m d.history) ≡ parts_of m d.history
  parts_there d there goings w same =
      ap (λ (k : Making). parts_in false (length m.programs) k (unit_part m d.history)) (same ∙ w.database_is)
      ∙ (λ i. record (parts_of m d.history) { cell = λ c. shown_first m.schema m.capacity (sequential_after m d.history).database (length m.programs) c i })

  module _ (d there : Making) (goings : List Going) (standing : AreStanding m d goings) (same : there ≡ d) (units : ℕ) (count : units ≡ length m.programs) where
    pub spelled_but : (kept : Numbers) (names : List CellName) (n : ℕ) → IsNumberBut (parts_of m d.history) kept (length m.programs) names n → IsNumberBut (parts_in false units there (unit_part m d.history)) kept units names n
    spelled_but kept names n h =
        subst (λ j. IsNumberBut (parts_in false j there (unit_part m d.history)) kept j names n) (sym count)
        (subst (λ (p : Parts). IsNumberBut p kept (length m.programs) names n) (sym (parts_there d there goings standing same)) h)

    pub spelled_state : (kept : Numbers) (n : ℕ) → NumbersState (parts_in false units there (unit_part m d.history)) kept n → IsNumberOf m kept d.history n
    spelled_state kept n h = record {
      number =
          subst (λ (p : Parts). IsNumberBut p kept (length m.programs) [] n) (parts_there d there goings standing same)
          (subst (λ j. IsNumberBut (parts_in false j there (unit_part m d.history)) kept j [] n) count h);
    }

  -- the array of the state before says what is so of all cells but those that changed
  pub all_but : (d : Making) (goings : List Going) (names : List CellName) (kept : Numbers) (n : ℕ) → AreStanding m d goings → OnlyLastChanged d names → IsNumberOf m kept (take (length d.history - 1) d.history) n → IsNumberBut (parts_of m d.history) kept 0 names n
  all_but d goings names kept n w only h =
      but_units (parts_of m before) (unit_part m d.history) (cell_part m d.history) kept names n h.number
      (λ c free.
      sym (shown_first m.schema m.capacity (sequential_after m d.history).database (length m.programs) c)
      ∙ unchanged_shown false m.schema m.capacity (length m.programs) names (sequential_after m before).database (sequential_after m d.history).database changed c free
      ∙ shown_first m.schema m.capacity (sequential_after m before).database (length m.programs) c) where
        before : List Entry
        before = take (length d.history - 1) d.history

        changed : OnlyChanged m.schema m.capacity names (sequential_after m (take (length d.history - 1) d.history)).database (sequential_after m d.history).database
        changed = subst (λ (k : Making). OnlyLastChanged k names) w.database_is only

  -- a number stays when others are added
  pub number_later : (a b : Numbers) → AreNumbers b → Grow a b → (h : List Entry) (n : ℕ) → IsNumberOf m a h n → IsNumberOf m b h n
  number_later a b once grown h n number = record { number = stays_number (parts_of m h) a b (length m.programs) [] n once grown number.number }

  -- ORDERS WITH THEIR NUMBERS

  pub numbered_later : (a b : Numbers) → AreNumbers b → Grow a b → (ns : List ℕ) (os : List (List ℕ)) → AreNumbered m a ns os → AreNumbered m b ns os
  numbered_later a b once grown [] [] h = tt
  numbered_later a b once grown [] (o ∷ os) h = absurd h
  numbered_later a b once grown (n ∷ ns) [] h = absurd h
  numbered_later a b once grown (n ∷ ns) (o ∷ os) h = (number_later a b once grown (history_of m o) n h.0, numbered_later a b once grown ns os h.1)

  module _ (kept : Numbers) where
    pub numbered_long : (ns : List ℕ) (os : List (List ℕ)) → AreNumbered m kept ns os → length ns ≡ length os
    numbered_long [] [] h = refl
    numbered_long [] (o ∷ os) h = absurd h
    numbered_long (n ∷ ns) [] h = absurd h
    numbered_long (n ∷ ns) (o ∷ os) h = ap suc (numbered_long ns os h.1)

    -- the number at a place is that of the order there
    pub numbered_there : (ns : List ℕ) (os : List (List ℕ)) (i : ℕ) → AreNumbered m kept ns os → i < length os → IsNumberOf m kept (history_of m (get_or os i [])) (get_or ns i 0)
    numbered_there [] [] i h low = absurd (omega (arith, low))
    numbered_there [] (o ∷ os) i h low = absurd h
    numbered_there (n ∷ ns) [] i h low = absurd h
    numbered_there (n ∷ ns) (o ∷ os) zero h low = h.0
    numbered_there (n ∷ ns) (o ∷ os) (suc i) h low = numbered_there ns os i h.1 (omega (arith, low))

    pub numbered_low : (ns : List ℕ) (os : List (List ℕ)) (i : ℕ) → AreNumbered m kept ns os → i < length os → i < length ns
    numbered_low ns os i h low = let long = numbered_long ns os h in omega (arith, long, low)

    pub state_at : (ns : List ℕ) (os : List (List ℕ)) (i n : ℕ) → AreNumbered m kept ns os → i < length os → n ≡ get_or ns i 0 → IsNumberOf m kept (history_of m (get_or os i [])) n
    state_at ns os i n h low is = subst (IsNumberOf m kept (history_of m (get_or os i []))) (sym is) (numbered_there ns os i h low)

    pub numbered_more : (ns : List ℕ) (os : List (List ℕ)) (n : ℕ) (o : List ℕ) → AreNumbered m kept ns os → IsNumberOf m kept (history_of m o) n → AreNumbered m kept (ns ++ n ∷ []) (os ++ o ∷ [])
    numbered_more [] [] n o h number = (number, tt)
    numbered_more [] (p ∷ os) n o h number = absurd h
    numbered_more (k ∷ ns) [] n o h number = absurd h
    numbered_more (k ∷ ns) (p ∷ os) n o h number = (h.0, numbered_more ns os n o h.1 number)

    -- each number is that of an order
    pub numbered_order : (ns : List ℕ) (os : List (List ℕ)) (n : ℕ) → AreNumbered m kept ns os → Contains ns n → (o : List ℕ) × Contains os o × IsNumberOf m kept (history_of m o) n
    numbered_order [] os n h c = absurd (contains_none n c)
    numbered_order (k ∷ ns) [] n h c = absurd h
    numbered_order (k ∷ ns) (p ∷ os) n h c =
        elim (contains_cases k ns n c) [
          | inl same ↦ (p, contains_here p os, subst (IsNumberOf m kept (history_of m p)) same h.0)
          | inr d ↦ let r = numbered_order ns os n h.1 d in (r.0, contains_behind p os r.0 r.1, r.2)
        ]

    -- each order has a number
    pub order_numbered : (ns : List ℕ) (os : List (List ℕ)) (o : List ℕ) → AreNumbered m kept ns os → Contains os o → (n : ℕ) × Contains ns n × IsNumberOf m kept (history_of m o) n
    order_numbered ns [] o h c = absurd (contains_none o c)
    order_numbered [] (p ∷ os) o h c = absurd h
    order_numbered (k ∷ ns) (p ∷ os) o h c =
        elim (contains_cases p os o c) [
          | inl same ↦ (k, contains_here k ns, subst (λ q. IsNumberOf m kept (history_of m q) k) same h.0)
          | inr d ↦ let r = order_numbered ns os o h.1 d in (r.0, contains_behind k ns r.0 r.1, r.2)
        ]
