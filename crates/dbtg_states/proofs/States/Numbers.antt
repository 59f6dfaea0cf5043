-- States have the same number just where their parts are the same; and how the next state is numbered.
-- p stands for the parts of a state, u and v are units, c and d names of cells, n and j numbers of states, i a place in an array.
use Rattle.std.proofs.Common.{◌≡◌, refl, sym, ◌∙◌, ap, subst, ℕ, zero, suc, ◌+◌, ◌-◌, ◌<◌, ◌≤◌, Bool, true, false, List, [], ◌∷◌, drop, length, Option, Some, None, inl, inr, ⊎_elim, arith, slice_get, slice_set, replicate}
use Rattle.std.specs.Prelude.{◌≢◌, is_some, option_and_then}
use Rattle.std.specs.List.{list_all}
use Rattle.std.proofs.lemmas.Bool.{and_from, cases_Bool, cases_lt, false≢true, true≢false}
use Rattle.std.proofs.lemmas.Option.{same_Some, slice_get_within}
use Rattle.dbtg_schema.specs.Lists.{Lists}
use Rattle.dbtg_schema.proofs.Public.{some_is}
use Rattle.dbtg_interned.specs.Kept.{IsOnce, Keeps}
use Rattle.dbtg_interned.specs.Arrays.{AreArrays, IsArray, elements, size}
use Rattle.dbtg_interned.proofs.Public.{elements_length, equal_are_one, few_elements, grows_refl, grows_trans, keeps_refl, keeps_trans, stays_array, stays_elements, stays_list, stays_size, zeros_array, zeros_elements}
use Rattle.dbtg_cells.specs.CellNumbers.{cell_count, cell_number, cells_in_order, is_cell}
use Rattle.dbtg_cells.specs.Names.{name_eq}
use Rattle.dbtg_cells.specs.declared.name.CellName.{CellName}
use Rattle.dbtg_cells.proofs.Public.{cell_in_order, get_set_other, get_set_same, has_number, name_eq_refl, numbered_at, same_name, stands_at}
use Rattle.dbtg_step.specs.Core.Reversible.{is_named}
use Rattle.dbtg_states.specs.Parts.{Parts}
use Rattle.dbtg_states.specs.Numbers.{AreNumbers, NumbersState, HasPut, IsNumberBut, Grow, Numbers, content_at}
use Rattle.dbtg_states.proofs.States.SameParts.{same_at_each}

-- CONTENTS

-- two numbers of one content are one
same_number : (contents : List (List ℕ)) → IsOnce contents → (a b : Option ℕ) (x : List ℕ) → option_and_then (slice_get contents) a ≡ Some x → option_and_then (slice_get contents) b ≡ Some x → a ≡ b
same_number contents once None b x e f = absurd (cc)
same_number contents once (Some a) None x e f = absurd (cc)
same_number contents once (Some a) (Some b) x e f = ap Some (once a b x e f)

-- a content stays
pub still_there : (old new : List (List ℕ)) → Keeps old new → (a : Option ℕ) (x : List ℕ) → option_and_then (slice_get old) a ≡ Some x → option_and_then (slice_get new) a ≡ Some x
still_there old new keeps None x e = absurd (cc)
still_there old new keeps (Some a) x e = stays_list old new a x keeps e

-- what is left of a list from a place on
pub left_from : {X : Type 0} (xs : List X) (i : ℕ) (x : X) → slice_get xs i ≡ Some x → drop i xs ≡ x ∷ drop (suc i) xs
left_from [] i x e = absurd (cc (e))
left_from (y ∷ ys) zero x e = let same : y ≡ x = cc in ap (λ z. z ∷ ys) same
left_from (y ∷ ys) (suc i) x e = left_from ys i x e

found_at : {X : Type 0} (xs : List X) (i : ℕ) → i < length xs → is_some (slice_get xs i) ≡ true
found_at [] i low = absurd (omega (arith, low))
found_at (x ∷ xs) zero low = refl
found_at (x ∷ xs) (suc i) low = found_at xs i (omega (arith, low))

-- THE SAME NUMBER

-- two states of one schema with the same parts
pub record HaveTheSame (p q : Parts) : Type 0 where
  pub units : (u : ℕ) → 0 < u → u ≤ p.count → p.unit u ≡ q.unit u
  pub cells : (c : CellName) → is_cell p.schema p.capacity c ≡ true → p.cell c ≡ q.cell c

-- with other parts of the same schema
abbrev pub with_parts : Parts → (ℕ → List ℕ) → (CellName → List ℕ) → Parts
with_parts p unit cell = record { schema = p.schema; capacity = p.capacity; count = p.count; unit = unit; cell = cell }

module _ (p : Parts) (unit : ℕ → List ℕ) (cell : CellName → List ℕ) (kept : Numbers) where
  -- one number: the same parts
  pub same_by_number : (n : ℕ) → NumbersState p kept n → NumbersState (with_parts p unit cell) kept n → HaveTheSame p (with_parts p unit cell)
  same_by_number n h g = record {
    units = λ u low high. same_Some (p.unit u) (unit u) (sym (h.units_are u low high) ∙ g.units_are u low high);
    cells = λ c there.
        let number = some_is (cell_number p.schema p.capacity c) (has_number p.schema p.capacity c ∙ there) in
        same_Some (p.cell c) (cell c) (sym (h.cells_are c number.0 number.1 refl) ∙ g.cells_are c number.0 number.1 refl);
  }

  module _ (n j : ℕ) (h : NumbersState p kept n) (g : NumbersState (with_parts p unit cell) kept j) (same : HaveTheSame p (with_parts p unit cell)) where
    abbrev ours : List ℕ
    ours = elements kept.arrays n

    abbrev others : List ℕ
    others = elements kept.arrays j

    at_unit : (u : ℕ) → 0 < u → u ≤ p.count → slice_get ours (u - 1) ≡ slice_get others (u - 1)
    at_unit u low high = same_number kept.contents h.kept_once.contents.once (slice_get ours (u - 1)) (slice_get others (u - 1)) (unit u) (h.units_are u low high ∙ ap Some (same.units u low high)) (g.units_are u low high)

    at_cell : (k : ℕ) → k < cell_count p.schema p.capacity → slice_get ours (p.count + k) ≡ slice_get others (p.count + k)
    at_cell k low =
        let found = some_is (slice_get (cells_in_order p.schema p.capacity) k) (found_at (cells_in_order p.schema p.capacity) k low) in
        let number = numbered_at p.schema p.capacity k found.0 found.1 in
        let there : is_cell p.schema p.capacity found.0 ≡ true = sym (has_number p.schema p.capacity found.0) ∙ ap is_some number in
        same_number kept.contents h.kept_once.contents.once (slice_get ours (p.count + k)) (slice_get others (p.count + k)) (cell found.0) (h.cells_are found.0 k number refl ∙ ap Some (same.cells found.0 there)) (g.cells_are found.0 k number refl)

    at_place : (i : ℕ) → i < length ours → slice_get ours i ≡ slice_get others i
    at_place i low =
        let long = elements_length kept.arrays n h.kept_once.arrays h.is_array in
        ⊎_elim
        (λ is_unit.
        let place : suc i - 1 ≡ i = omega arith in
        subst (λ k. slice_get ours k ≡ slice_get others k) place (at_unit (suc i) (omega arith) (omega (arith, is_unit))))
        (λ behind. ⊎_elim
        (λ within.
        let place : p.count + (i - p.count) ≡ i = omega (arith, behind) in
        subst (λ k. slice_get ours k ≡ slice_get others k) place (at_cell (i - p.count) (omega (arith, behind, within))))
        (λ past. h.zeros i past (omega (arith, low, long)) ∙ sym (g.zeros i past (omega (arith, low, long))))
        (cases_lt i (p.count + cell_count p.schema p.capacity)))
        (cases_lt i p.count)

    -- the same parts: one number
    pub one_number_of : n ≡ j
    one_number_of =
        let long = elements_length kept.arrays n h.kept_once.arrays h.is_array in
        let long' = elements_length kept.arrays j h.kept_once.arrays g.is_array in
        equal_are_one kept.arrays n j h.kept_once.arrays h.is_array g.is_array (same_at_each ours others (long ∙ sym long') at_place)

-- LATER

-- a number stays when others are added
pub stays_number : (p : Parts) (old new : Numbers) (units : ℕ) (pending : List CellName) (n : ℕ) → AreNumbers new → Grow old new → IsNumberBut p old units pending n → IsNumberBut p new units pending n
stays_number p old new units pending n once keeps h =
    let same = stays_elements old.arrays new.arrays n keeps.arrays h.is_array in
    let content : (i : ℕ) (x : List ℕ) → content_at old n i ≡ Some x → content_at new n i ≡ Some x
    = λ i x e. ap (λ (es : List ℕ). option_and_then (slice_get new.contents) (slice_get es i)) same ∙ still_there old.contents new.contents keeps.contents (slice_get (elements old.arrays n) i) x e in
    let size_is = stays_size old.arrays new.arrays keeps.arrays in
    record {
      kept_once = once;
      room = subst (λ k. p.count + cell_count p.schema p.capacity ≤ k) (sym size_is) h.room;
      is_array = stays_array old.arrays new.arrays n keeps.arrays h.is_array;
      units_are = λ u low high. content (u - 1) (p.unit u) (h.units_are u low high);
      cells_are = λ c k number free. content (p.count + k) (p.cell c) (h.cells_are c k number free);
      zeros = λ i past within. ap (λ (es : List ℕ). slice_get es i) same ∙ h.zeros i past (subst (λ k. i < k) size_is within);
    }

-- NOTHING YET

all_from : (test : CellName → Bool) (ns : List CellName) → ((i : ℕ) (c : CellName) → slice_get ns i ≡ Some c → test c ≡ true) → list_all test ns ≡ true
all_from test [] h = refl
all_from test (n ∷ ns) h = and_from _ _ (h zero n refl) (all_from test ns (λ i c e. h (suc i) c e))

-- the names of all cells are names of cells
pub all_are_cells : (schema : Lists) (capacity : ℕ) → list_all (is_cell schema capacity) (cells_in_order schema capacity) ≡ true
all_are_cells schema capacity = all_from (is_cell schema capacity) (cells_in_order schema capacity) (λ i c e. sym (has_number schema capacity c) ∙ ap is_some (numbered_at schema capacity i c e))

zero_at : (count i : ℕ) → i < count → slice_get {X = ℕ} (replicate count 0) i ≡ Some 0
zero_at zero i low = absurd (omega (arith, low))
zero_at (suc count) zero low = refl
zero_at (suc count) (suc i) low = zero_at count i (omega (arith, low))

-- the array of zeros says nothing yet of any unit or cell
pub nothing_said : (p : Parts) (kept : Numbers) → AreNumbers kept → p.count + cell_count p.schema p.capacity ≤ size kept.arrays → IsNumberBut p kept 0 (cells_in_order p.schema p.capacity) 0
nothing_said p kept once room = record {
  kept_once = once;
  room = room;
  is_array = zeros_array kept.arrays once.arrays;
  units_are = λ u low high. absurd (omega (arith, low, high));
  cells_are = λ c k number free. absurd (true≢false (sym (cell_in_order p.schema p.capacity c ∙ sym (has_number p.schema p.capacity c) ∙ ap is_some number) ∙ free));
  zeros = λ i past low. ap (λ (es : List ℕ). slice_get es i) (zeros_elements kept.arrays once.arrays) ∙ zero_at (size kept.arrays) i low;
}

-- ONE PART MORE

-- there are at most 2 ^ 24 places
pub few_places : (numbers : Numbers) → AreNumbers numbers → size numbers.arrays ≤ 16777216
few_places numbers are = few_elements numbers.arrays are.arrays

-- what is put into an array
pub put_is : (old new : Numbers) (array place number n : ℕ) (content : List ℕ) → AreArrays old.arrays → AreNumbers new → Grow old new → place < size old.arrays → IsArray old.arrays array → IsArray new.arrays n
    → elements new.arrays n ≡ slice_set (elements old.arrays array) place number → slice_get new.contents number ≡ Some content → HasPut old new array place content n
put_is old new array place number n content are once keeps within is_array changed set is =
    let long = elements_length old.arrays array are is_array in
    record {
      kept_once = once;
      keeps = keeps;
      is_array = changed;
      at = ap (option_and_then (slice_get new.contents)) (ap (λ (es : List ℕ). slice_get es place) set ∙ get_set_same (elements old.arrays array) place number (omega (arith, long, within))) ∙ is;
      others = λ i apart. ap (λ (es : List ℕ). slice_get es i) set ∙ get_set_other (elements old.arrays array) place i number apart;
    }

-- what an array says at the other places stays too
other_content : (old new : Numbers) (array place : ℕ) (content : List ℕ) (n : ℕ) → HasPut old new array place content n → (i : ℕ) → i ≢ place → (x : List ℕ) → content_at old array i ≡ Some x → content_at new n i ≡ Some x
other_content old new array place content n put i apart x e =
    ap (option_and_then (slice_get new.contents)) (put.others i apart) ∙ still_there old.contents new.contents put.keeps.contents (slice_get (elements old.arrays array) i) x e

module _ (p : Parts) (old new : Numbers) where
  -- the next of the pending cells
  pub cell_put : (units : ℕ) (c : CellName) (pending : List CellName) (array k n : ℕ) → units ≤ p.count → cell_number p.schema p.capacity c ≡ Some k
      → IsNumberBut p old units (c ∷ pending) array → HasPut old new array (p.count + k) (p.cell c) n → IsNumberBut p new units pending n
  cell_put units c pending array k n few number h put =
      let size_is = stays_size old.arrays new.arrays put.keeps.arrays in
      let within = slice_get_within (cells_in_order p.schema p.capacity) k c (stands_there c k number) in
      record {
        kept_once = put.kept_once;
        room = subst (λ l. p.count + cell_count p.schema p.capacity ≤ l) (sym size_is) h.room;
        is_array = put.is_array;
        units_are = λ u low high. other_content old new array (p.count + k) (p.cell c) n put (u - 1) (λ e. omega (arith, low, high, few, e)) (p.unit u) (h.units_are u low high);
        cells_are = λ d l at free. elim (cases_Bool (name_eq d c)) [
          | inl same ↦
              let is = same_name d c same in
              let places : l ≡ k = same_Some l k (sym at ∙ ap (cell_number p.schema p.capacity) is ∙ number) in
              (λ i. content_at new n (p.count + places i)) ∙ put.at ∙ ap (λ (b : CellName). Some (p.cell b)) (sym is)
          | inr other ↦
              other_content old new array (p.count + k) (p.cell c) n put (p.count + l) (λ e. apart d l at other (omega (arith, e))) (p.cell d) (h.cells_are d l at (rw other free))
        ];
        zeros = λ i past low. put.others i (λ e. omega (arith, past, within, e)) ∙ h.zeros i past (subst (λ l. i < l) size_is low);
      } where
        stands_there : (d : CellName) (l : ℕ) → cell_number p.schema p.capacity d ≡ Some l → slice_get (cells_in_order p.schema p.capacity) l ≡ Some d
        stands_there d l at = stands_at d (cells_in_order p.schema p.capacity) l at

        apart : (d : CellName) (l : ℕ) → cell_number p.schema p.capacity d ≡ Some l → name_eq d c ≡ false → l ≡ k → ⊥
        apart d l at other e =
            let is : d ≡ c = same_Some d c (sym (stands_there d l at) ∙ ap (slice_get (cells_in_order p.schema p.capacity)) e ∙ stands_there c k number) in
            false≢true (sym other ∙ ap (name_eq d) (sym is) ∙ name_eq_refl d)

  -- the next of the units
  pub unit_put : (units : ℕ) (pending : List CellName) (array n : ℕ) → units < p.count → IsNumberBut p old units pending array → HasPut old new array units (p.unit (suc units)) n → IsNumberBut p new (suc units) pending n
  unit_put units pending array n few h put =
      let size_is = stays_size old.arrays new.arrays put.keeps.arrays in
      record {
        kept_once = put.kept_once;
        room = subst (λ l. p.count + cell_count p.schema p.capacity ≤ l) (sym size_is) h.room;
        is_array = put.is_array;
        units_are = λ u low high.
            ⊎_elim
            (λ before. other_content old new array units (p.unit (suc units)) n put (u - 1) (λ e. omega (arith, low, before, e)) (p.unit u) (h.units_are u low (omega (arith, before))))
            (λ last.
            let is : u ≡ suc units = omega (arith, high, last) in
            let place : suc units - 1 ≡ units = omega arith in
            subst (λ v. content_at new n (v - 1) ≡ Some (p.unit v)) (sym is) (ap (content_at new n) place ∙ put.at))
            (cases_lt u (suc units));
        cells_are = λ d l at free. other_content old new array units (p.unit (suc units)) n put (p.count + l) (λ e. omega (arith, few, e)) (p.cell d) (h.cells_are d l at free);
        zeros = λ i past low. put.others i (λ e. omega (arith, past, few, e)) ∙ h.zeros i past (subst (λ l. i < l) size_is low);
      }

-- WHAT IS KEPT

pub grow_none : (numbers : Numbers) → Grow numbers numbers
grow_none numbers = record { contents = keeps_refl numbers.contents; arrays = grows_refl numbers.arrays }

pub grow_more : (a b c : Numbers) → Grow a b → Grow b c → Grow a c
grow_more a b c h g = record { contents = keeps_trans a.contents b.contents c.contents h.contents g.contents; arrays = grows_trans a.arrays b.arrays c.arrays h.arrays g.arrays }

-- UNITS, ONE AFTER ANOTHER

-- the array of a state says what is so of the next, but for the units and the cells that are named
pub but_units : (p : Parts) (unit : ℕ → List ℕ) (cell : CellName → List ℕ) (kept : Numbers) (names : List CellName) (n : ℕ) → NumbersState p kept n → ((c : CellName) → is_named names c ≡ false → cell c ≡ p.cell c) → IsNumberBut (with_parts p unit cell) kept 0 names n
but_units p unit cell kept names n h same = record {
  kept_once = h.kept_once;
  room = h.room;
  is_array = h.is_array;
  units_are = λ u low high. absurd (omega (arith, low, high));
  cells_are = λ c k number free. h.cells_are c k number refl ∙ ap Some (sym (same c free));
  zeros = h.zeros;
}

module _ (p : Parts) where
  -- this many units are put
  pub record ArePut (old new : Numbers) (units array n : ℕ) : Type 0 where
    pub keeps : Grow old new
    pub but : (names : List CellName) → IsNumberBut p old 0 names array → IsNumberBut p new units names n

  pub none_put : (old : Numbers) (array : ℕ) → ArePut old old 0 array array
  none_put old array = record { keeps = grow_none old; but = λ names h. h }

  pub one_put : (old mid new : Numbers) (units array n k : ℕ) → units < p.count → ArePut old mid units array n → HasPut mid new n (units + 1 - 1) (p.unit (units + 1)) k → ArePut old new (units + 1) array k
  one_put old mid new units array n k low so_far put =
      let next : units + 1 ≡ suc units = omega arith in
      let place : units + 1 - 1 ≡ units = omega arith in
      let there : HasPut mid new n units (p.unit (suc units)) k = subst (λ j. HasPut mid new n j (p.unit (suc units)) k) place (subst (λ v. HasPut mid new n (units + 1 - 1) (p.unit v) k) next put) in
      record {
        keeps = grow_more old mid new so_far.keeps put.keeps;
        but = λ names h. subst (λ v. IsNumberBut p new v names k) (sym next) (unit_put p mid new units names n k low (so_far.but names h) there);
      }
