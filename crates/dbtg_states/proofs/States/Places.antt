-- What the parts of a state say, place by place, and what was looked at.
-- p stands for the parts of a state, u is a unit, l a look, i a place in an array, c the name of a cell, k its number, n the number of a state.
use Rattle.std.proofs.Common.{◌≡◌, refl, sym, ◌∙◌, ap, subst, ℕ, ◌+◌, ◌-◌, ◌<◌, ◌≤◌, true, false, List, [], ◌∷◌, length, Option, Some, inl, inr, ⊎_elim, arith, map, slice_get}
use Rattle.std.specs.Prelude.{◌==◌, All, nat_lt, option_map, unwrap_or, if◌then◌else◌}
use Rattle.std.specs.List.{list_all}
use Rattle.std.proofs.lemmas.Bool.{cases_lt, eq-eqb, eqb-true, false_from_ne_true, lt-ltb, ltb-true}
use Rattle.std.proofs.lemmas.List.Elements.{All-cons, All-head, All-nil, All-tail}
use Rattle.std.proofs.lemmas.Option.{slice_get_within}
use Rattle.dbtg_schema.specs.Lists.{Lists}
use Rattle.dbtg_schema.proofs.Public.{some_is}
use Rattle.dbtg_interned.specs.Kept.{Keeps}
use Rattle.dbtg_interned.specs.Arrays.{IsArray, elements, size}
use Rattle.dbtg_interned.proofs.Public.{stays_list}
use Rattle.dbtg_cells.specs.CellNumbers.{cell_count, cell_number, cells_in_order, is_cell}
use Rattle.dbtg_cells.specs.declared.name.CellName.{CellName}
use Rattle.dbtg_cells.proofs.Public.{has_number, numbered_at, stands_at, there_is}
use Rattle.dbtg_unit.proofs.Public.{In, all_at, any_element, any_in, of_map}
use Rattle.dbtg_states.specs.declared.transitions.Look.{Look}
use Rattle.dbtg_states.specs.Numbers.{AreNumbers, Numbers, NumbersState, content_at}
use Rattle.dbtg_states.specs.Parts.{Parts}
use Rattle.dbtg_states.specs.Inside.Transitions.{is_looked_at, part_at}

-- LISTS

-- what is so of all is so of each
pub each_in : {X : Type 0} (P : X → Type 0) (xs : List X) → All P xs → (x : X) → In x xs → P x
each_in P [] h x i = absurd i
each_in P (y ∷ ys) h x i = ⊎_elim (λ e. subst P e (All-head P y ys h)) (λ j. each_in P ys (All-tail P y ys h) x j) i

-- and the other way round
pub each_of : {X : Type 0} (P : X → Type 0) (xs : List X) → ((x : X) → In x xs → P x) → All P xs
each_of P [] h = All-nil P
each_of P (x ∷ xs) h = All-cons P x xs (h x (inl refl)) (each_of P xs (λ y j. h y (inr j)))

-- THE PLACES OF CELLS

-- the cell of a name has a number
pub its_number : (schema : Lists) (capacity : ℕ) (names : List CellName) → list_all (is_cell schema capacity) names ≡ true → (c : CellName) → In c names → (i : ℕ) × (cell_number schema capacity c ≡ Some i)
its_number schema capacity names are c i = some_is (cell_number schema capacity c) (has_number schema capacity c ∙ all_at (is_cell schema capacity) c names are i)

-- a place that was looked at is the unit's or a cell's
pub place_by : (schema : Lists) (capacity count first : ℕ) (names : List CellName) → list_all (is_cell schema capacity) names ≡ true → (P : ℕ → Type 0) → P first
    → ((c : CellName) (i : ℕ) → In c names → cell_number schema capacity c ≡ Some i → P (count + i)) → (i : ℕ) → In i (first ∷ map (λ c. count + unwrap_or (cell_number schema capacity c) 0) names) → P i
place_by schema capacity count first names are P of_first of_cell i there =
    ⊎_elim
    (λ e. subst P e of_first)
    (λ j.
    let at = of_map (λ c. count + unwrap_or (cell_number schema capacity c) 0) i names j in
    let number = its_number schema capacity names are at.0 at.1 in
    let is : count + number.0 ≡ i = ap (λ (r : Option ℕ). count + unwrap_or r 0) (sym number.1) ∙ at.2 in
    subst P is (of_cell at.0 number.0 at.1 number.1))
    there

-- LOOKS

-- the places that were looked at
abbrev pub places : List Look → List ℕ
places looks = map (λ l. l.place) looks

-- a place that was looked at has a look
pub looked_at : (looks : List Look) (i : ℕ) → is_looked_at looks i ≡ true → (l : Look) × In l looks × (l.place ≡ i)
looked_at looks i h = let found = any_element (λ (l : Look). l.place == i) looks h in (found.0, found.1, eqb-true found.0.place i found.2)

-- and the other way round
pub is_looked : (looks : List Look) (i : ℕ) → In i (places looks) → is_looked_at looks i ≡ true
is_looked looks i j = let at = of_map (λ (l : Look). l.place) i looks j in any_in (λ (l : Look). l.place == i) at.0 looks at.1 (eq-eqb at.0.place i at.2)

-- WHAT A PLACE SAYS

module _ (p : Parts) where
  -- how many places there are
  abbrev total : ℕ
  total = p.count + cell_count p.schema p.capacity

  pub at_unit : (u : ℕ) → 0 < u → u ≤ p.count → part_at p (u - 1) ≡ Some (p.unit u)
  at_unit u low high =
      let front : nat_lt (u - 1) p.count ≡ true = lt-ltb (u - 1) p.count (omega arith) in
      let is : u - 1 + 1 ≡ u = omega arith in
      ap (λ b. if b then Some (p.unit (u - 1 + 1)) else option_map p.cell (slice_get (cells_in_order p.schema p.capacity) (u - 1 - p.count))) front ∙ ap (λ v. Some (p.unit v)) is

  pub behind_units : (i : ℕ) → p.count ≤ i → part_at p i ≡ option_map p.cell (slice_get (cells_in_order p.schema p.capacity) (i - p.count))
  behind_units i past =
      let back : nat_lt i p.count ≡ false = false_from_ne_true (nat_lt i p.count) (λ t. let low = ltb-true i p.count t in omega (arith, low, past)) in
      ap (λ b. if b then Some (p.unit (i + 1)) else option_map p.cell (slice_get (cells_in_order p.schema p.capacity) (i - p.count))) back

  pub at_cell : (c : CellName) (k : ℕ) → cell_number p.schema p.capacity c ≡ Some k → part_at p (p.count + k) ≡ Some (p.cell c)
  at_cell c k number =
      let place : p.count + k - p.count ≡ k = omega arith in
      behind_units (p.count + k) (omega arith) ∙ ap (option_map p.cell) (ap (slice_get (cells_in_order p.schema p.capacity)) place ∙ stands_at c (cells_in_order p.schema p.capacity) k number)

  -- the cell at a place behind the units
  cell_there : (i : ℕ) → p.count ≤ i → i < total → (c : CellName) × (cell_number p.schema p.capacity c ≡ Some (i - p.count))
  cell_there i past low =
      let at = there_is (cells_in_order p.schema p.capacity) (i - p.count) (omega (arith, past, low)) in
      (at.0, numbered_at p.schema p.capacity (i - p.count) at.0 at.1)

  -- each place says something
  pub says_some : (i : ℕ) → i < total → (content : List ℕ) × (part_at p i ≡ Some content)
  says_some i low =
      ⊎_elim
      (λ front.
      let is : i + 1 - 1 ≡ i = omega arith in
      (p.unit (i + 1), subst (λ k. part_at p k ≡ Some (p.unit (i + 1))) is (at_unit (i + 1) (omega arith) (omega (arith, front)))))
      (λ past.
      let at = cell_there i past low in
      let is : p.count + (i - p.count) ≡ i = omega (arith, past) in
      (p.cell at.0, subst (λ k. part_at p k ≡ Some (p.cell at.0)) is (at_cell at.0 (i - p.count) at.1)))
      (cases_lt i p.count)

  module _ (kept : Numbers) (n : ℕ) where
    -- what the number of a state says at a place
    pub number_says : NumbersState p kept n → (i : ℕ) → i < total → content_at kept n i ≡ part_at p i
    number_says h i low =
        ⊎_elim
        (λ front.
        let is : i + 1 - 1 ≡ i = omega arith in
        subst (λ k. content_at kept n k ≡ part_at p k) is (h.units_are (i + 1) (omega arith) (omega (arith, front)) ∙ sym (at_unit (i + 1) (omega arith) (omega (arith, front)))))
        (λ past.
        let at = cell_there i past low in
        let is : p.count + (i - p.count) ≡ i = omega (arith, past) in
        subst (λ k. content_at kept n k ≡ part_at p k) is (h.cells_are at.0 (i - p.count) at.1 refl ∙ sym (at_cell at.0 (i - p.count) at.1)))
        (cases_lt i p.count)

    -- an array that says this is the number of the state
    pub says_number : AreNumbers kept → total ≤ size kept.arrays → IsArray kept.arrays n → ((i : ℕ) → i < total → content_at kept n i ≡ part_at p i) → ((i : ℕ) → total ≤ i → i < size kept.arrays → slice_get (elements kept.arrays n) i ≡ Some 0)
        → NumbersState p kept n
    says_number once room is_array says zeros = record {
      kept_once = once;
      room = room;
      is_array = is_array;
      units_are = λ u low high. says (u - 1) (omega (arith, low, high)) ∙ at_unit u low high;
      cells_are = λ c k number free.
          let within = slice_get_within (cells_in_order p.schema p.capacity) k c (stands_at c (cells_in_order p.schema p.capacity) k number) in
          says (p.count + k) (omega (arith, within)) ∙ at_cell c k number;
      zeros = zeros;
    }

-- LATER

-- what was kept stands where it stood
pub stays_there : (old new : List (List ℕ)) → Keeps old new → (i : ℕ) → i < length old → slice_get new i ≡ slice_get old i
stays_there old new keeps i low = let at = there_is old i low in stays_list old new i at.0 keeps at.1 ∙ sym at.1
