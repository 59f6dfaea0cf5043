-- The value of a cell after many edits.
use Rattle.std.proofs.Common.{◌⊎◌, ◌≡◌, ◌≢◌, refl, sym, ◌∙◌, ap, ℕ, zero, suc, ◌+◌, ◌<◌, ◌≤◌, arith, Bool, true, false, cond, not, ◌||◌, List, [], ◌∷◌, ◌++◌, eqb, inl, inr}
use Rattle.std.specs.Prelude.{filter}
use Rattle.std.specs.List.{list_any, list_all, flat_map, range_with_len}
use Rattle.std.proofs.lemmas.Bool.{and_parts, and_from, cases_Bool, eqb-true, eq-eqb, eqb-false, false≢true, ne_eqb}
use Rattle.dbtg_cells.specs.declared.name.CellName.{CellName}
use Rattle.dbtg_cells.specs.Shown.{CellValue}
use Rattle.dbtg_unit.specs.declared.edit.CellEdit.{CellEdit}
use Rattle.dbtg_unit.specs.Hands.Edits.{edited_at}
use Rattle.dbtg_unit.specs.Database.State.Legal.{pairwise}

-- edits, and then others
pub edited_at_append : (c : CellName) (xs ys : List CellEdit) (value : CellValue) → edited_at c (xs ++ ys) value ≡ edited_at c ys (edited_at c xs value)
edited_at_append c [] ys value = refl
edited_at_append c (x ∷ xs) ys value = edited_at_append c xs ys _

-- no number stands twice
abbrev pub distinct : List ℕ → Bool
distinct = pairwise (λ x y. not (eqb x y))

abbrev pub has_number : ℕ → List ℕ → Bool
has_number s = list_any (λ x. eqb x s)

has_number_all : (p : ℕ → Bool) (s : ℕ) (xs : List ℕ) → list_all p xs ≡ true → has_number s xs ≡ true → p s ≡ true
has_number_all p s [] h g = absurd (false≢true g)
has_number_all p s (x ∷ xs) h g =
    let hs = and_parts _ _ h in
    elim (cases_Bool (eqb x s)) [
      | inl e ↦ ap p (sym (eqb-true x s e)) ∙ hs.0
      | inr e ↦ has_number_all p s xs hs.1 (sym (ap (λ b. b || has_number s xs) e) ∙ g)
    ]

not_equal : (x y : ℕ) → not (eqb x y) ≡ true → x ≢ y
not_equal x y h e = false≢true (sym (ap not (eq-eqb x y e)) ∙ h)

-- edits set by set, none of which is of this cell
pub edits_miss : (c : CellName) (f : ℕ → List CellEdit) (xs : List ℕ) (value : CellValue)
    → ((x : ℕ) (v : CellValue) → has_number x xs ≡ true → edited_at c (f x) v ≡ v) → edited_at c (flat_map f xs) value ≡ value
edits_miss c f [] value miss = refl
edits_miss c f (x ∷ xs) value miss =
    edited_at_append c (f x) (flat_map f xs) value
    ∙ ap (edited_at c (flat_map f xs)) (miss x value (ap (λ b. b || has_number x xs) (eq-eqb x x refl)))
    ∙ edits_miss c f xs value (λ y v h. miss y v (ap (λ b. eqb x y || b) h ∙ or_true (eqb x y))) where
      or_true : (b : Bool) → (b || true) ≡ true
      or_true true = refl
      or_true false = refl

-- edits set by set, of which only those of set s are of this cell
pub edits_hit : (c : CellName) (f : ℕ → List CellEdit) (xs : List ℕ) (s : ℕ) (value : CellValue) → distinct xs ≡ true → has_number s xs ≡ true
    → ((x : ℕ) (v : CellValue) → x ≢ s → edited_at c (f x) v ≡ v) → edited_at c (flat_map f xs) value ≡ edited_at c (f s) value
edits_hit c f [] s value once has miss = absurd (false≢true has)
edits_hit c f (x ∷ xs) s value once has miss =
    let ones = and_parts _ _ once in
    edited_at_append c (f x) (flat_map f xs) value
    ∙ elim (cases_Bool (eqb x s)) [
      | inl e ↦
          let here = eqb-true x s e in
          edits_miss c f xs (edited_at c (f x) value) (λ y v h. miss y v (λ same. not_equal x y (has_number_all (λ z. not (eqb x z)) y xs ones.0 h) (here ∙ sym same)))
          ∙ ap (λ z. edited_at c (f z) value) here
      | inr e ↦
          ap (edited_at c (flat_map f xs)) (miss x value (λ same. false≢true (sym e ∙ eq-eqb x s same)))
          ∙ edits_hit c f xs s value ones.1 (sym (ap (λ b. b || has_number s xs) e) ∙ has) miss
    ]

-- a range has no number twice
above_all : (x from count : ℕ) → x < from → list_all (λ y. not (eqb x y)) (range_with_len from count) ≡ true
above_all x from zero h = refl
above_all x from (suc count) h =
    and_from _ _ (ap not (ne_eqb x from (omega (arith, h)))) (above_all x (from + 1) count (omega (arith, h)))

pub range_distinct : (from count : ℕ) → distinct (range_with_len from count) ≡ true
range_distinct from zero = refl
range_distinct from (suc count) = and_from _ _ (above_all from (from + 1) count (omega arith)) (range_distinct (from + 1) count)

-- what a filter leaves passes, and what passes is left
pub has_number_passes : (p : ℕ → Bool) (s : ℕ) (xs : List ℕ) → has_number s (filter p xs) ≡ true → p s ≡ true
has_number_passes p s [] h = absurd (false≢true h)
has_number_passes p s (x ∷ xs) h =
    elim (cases_Bool (p x)) [
      | inl e ↦
          elim (cases_Bool (eqb x s)) [
            | inl same ↦ ap p (sym (eqb-true x s same)) ∙ e
            | inr other ↦ has_number_passes p s xs (sym (ap (λ b. has_number s (cond b (x ∷ filter p xs) (filter p xs))) e ∙ ap (λ b. b || has_number s (filter p xs)) other) ∙ h)
          ]
      | inr e ↦ has_number_passes p s xs (sym (ap (λ b. has_number s (cond b (x ∷ filter p xs) (filter p xs))) e) ∙ h)
    ]

pub has_number_filter : (p : ℕ → Bool) (s : ℕ) (xs : List ℕ) → p s ≡ true → has_number s xs ≡ true → has_number s (filter p xs) ≡ true
has_number_filter p s [] passes h = absurd (false≢true h)
has_number_filter p s (x ∷ xs) passes h =
    elim (cases_Bool (eqb x s)) [
      | inl e ↦
          ap (λ b. has_number s (cond b (x ∷ filter p xs) (filter p xs))) (ap p (eqb-true x s e) ∙ passes)
          ∙ ap (λ b. b || has_number s (filter p xs)) e
      | inr e ↦
          let rest = has_number_filter p s xs passes (sym (ap (λ b. b || has_number s xs) e) ∙ h) in
          elim (p x) as (λ b. has_number s (cond b (x ∷ filter p xs) (filter p xs)) ≡ true) [
            | true ↦ ap (λ b. b || has_number s (filter p xs)) e ∙ rest
            | false ↦ rest
          ]
    ]

pub has_number_range : (s from count : ℕ) → from ≤ s → s < from + count → has_number s (range_with_len from count) ≡ true
has_number_range s from zero low high = absurd (omega (arith, low, high))
has_number_range s from (suc count) low high =
    elim (cases_Bool (eqb from s)) [
      | inl e ↦ ap (λ b. b || has_number s (range_with_len (from + 1) count)) e
      | inr e ↦ ap (λ b. b || has_number s (range_with_len (from + 1) count)) e ∙ has_number_range s (from + 1) count (omega (arith, low, eqb-false from s e)) (omega (arith, high))
    ]
