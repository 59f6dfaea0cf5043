-- The first of some names that passes, as they are gone through.
use Rattle.std.proofs.Common.{◌≡◌, refl, sym, ◌∙◌, add-one, ap, append_assoc, arith, get_or, length, ℕ, zero, suc, ◌+◌, ◌<◌, ◌≤◌, Bool, true, false, cond, List, [], ◌∷◌, ◌++◌, Option, Some, None, drop, map, take}
use Rattle.std.proofs.Math.Seq.{drop-cons}
use Rattle.std.specs.Prelude.{filter, is_some, slice_get}
use Rattle.std.specs.List.{find, flat_map, range_with_len}
use Rattle.std.specs.Option.{option_or}
use Rattle.std.proofs.lemmas.List.{take-append-drop, take_all}
use Rattle.std.proofs.lemmas.Option.{slice_get_past, slice_get_read}
use Rattle.dbtg_cells.specs.declared.cell.Cell.{Cell}
use Rattle.dbtg_cells.specs.declared.key.DbKey.{DbKey}
use Rattle.dbtg_cells.specs.declared.name.CellName.{CellName}
use Rattle.dbtg_unit.specs.Hands.Hands.{Hands, cell_of}
use Rattle.dbtg_unit.specs.Hands.Local.{holds}
use Rattle.dbtg_schema.proofs.Public.{numbers_end, numbers_next}
use Rattle.dbtg_unit.proofs.Public.{holds_there}
use Rattle.dbtg_erase.proofs.Bringing.{find_second}

-- a cell is held where one is found by its name
pub held_by_name : (hands : Hands) (c : CellName) (o : Option Cell) → o ≡ cell_of c hands.cells → is_some o ≡ holds hands.cells c
held_by_name hands c o e = ap is_some e ∙ holds_there hands.cells c

pub find_or : (p : CellName → Bool) (xs ys : List CellName) → find p (xs ++ ys) ≡ option_or (find p xs) (find p ys)
find_or p [] ys = refl
find_or p (x ∷ xs) ys = elim (p x) as (λ b. cond b (Some x) (find p (xs ++ ys)) ≡ option_or (cond b (Some x) (find p xs)) (find p ys)) [ true ↦ refl | false ↦ find_or p xs ys ]

-- names that are made number by number
abbrev pub Splits : (List ℕ → List CellName) → Type 0
Splits names = (i : ℕ) (xs : List ℕ) → names (i ∷ xs) ≡ names (i ∷ []) ++ names xs

pub splits_map : (f : ℕ → CellName) (p : ℕ → Bool) → Splits (λ xs. map f (filter p xs))
splits_map f p i xs = elim (p i) as (λ b. map f (cond b (i ∷ filter p xs) (filter p xs)) ≡ map f (cond b (i ∷ []) []) ++ map f (filter p xs)) [ true ↦ refl | false ↦ refl ]

module _ (p : CellName → Bool) (names : List ℕ → List CellName) (n i set : ℕ) (goal : Option CellName) where
  next_is : Splits names → i < n → set ≡ i → find p (names (drop i (range_with_len 0 n))) ≡ option_or (find p (names (set ∷ []))) (find p (names (drop (i + 1) (range_with_len 0 n))))
  next_is splits below is =
      ap (λ xs. find p (names xs)) (numbers_next n i below) ∙ ap (find p) (splits i (drop (i + 1) (range_with_len 0 n)))
      ∙ find_or p (names (i ∷ [])) (names (drop (i + 1) (range_with_len 0 n)))
      ∙ ap (λ s. option_or (find p (names (s ∷ []))) (find p (names (drop (i + 1) (range_with_len 0 n))))) (sym is)

  -- none passes of this number
  pub first_further : Splits names → i < n → set ≡ i → None ≡ find p (names (set ∷ [])) → find p (names (drop i (range_with_len 0 n))) ≡ goal → find p (names (drop (i + 1) (range_with_len 0 n))) ≡ goal
  first_further splits below is none h =
      ap (λ o. option_or o (find p (names (drop (i + 1) (range_with_len 0 n))))) none ∙ sym (next_is splits below is) ∙ h

  -- one does
  pub first_found : (c : CellName) → Splits names → i < n → set ≡ i → Some c ≡ find p (names (set ∷ [])) → find p (names (drop i (range_with_len 0 n))) ≡ goal → Some c ≡ goal
  first_found c splits below is found h =
      ap (λ o. option_or o (find p (names (drop (i + 1) (range_with_len 0 n))))) found ∙ sym (next_is splits below is) ∙ h

  -- none is left
  pub first_end : names [] ≡ [] → n ≤ i → find p (names (drop i (range_with_len 0 n))) ≡ goal → None ≡ goal
  first_end none past h = sym (ap (λ xs. find p (names xs)) (numbers_end n i past) ∙ ap (find p) none) ∙ h

-- the keys from a place on
pub drop_at : (keys : List DbKey) (i : ℕ) (key : DbKey) → i < length keys → key ≡ get_or keys i key → drop i keys ≡ key ∷ drop (i + 1) keys
drop_at keys i key below at =
    let next : suc i ≡ i + 1 = omega arith in
    drop-cons keys i key below ∙ ap (λ k. k ∷ drop (suc i) keys) (sym at) ∙ ap (λ j. key ∷ drop j keys) next

-- the names of one key after another
module _ (p : CellName → Bool) (names : DbKey → List CellName) (keys : List DbKey) (i : ℕ) (key : DbKey) (goal : Option CellName) (below : i < length keys) (at : key ≡ get_or keys i key) where
  key_is : find p (flat_map names (drop i keys)) ≡ option_or (find p (names key)) (find p (flat_map names (drop (i + 1) keys)))
  key_is = ap (λ ks. find p (flat_map names ks)) (drop_at keys i key below at) ∙ find_or p (names key) (flat_map names (drop (i + 1) keys))

  -- none passes of this key
  pub further_key : None ≡ find p (names key) → find p (flat_map names (drop i keys)) ≡ goal → find p (flat_map names (drop (i + 1) keys)) ≡ goal
  further_key none h = ap (λ o. option_or o (find p (flat_map names (drop (i + 1) keys)))) none ∙ sym key_is ∙ h

  -- one does
  pub found_key : (c : CellName) → Some c ≡ find p (names key) → find p (flat_map names (drop i keys)) ≡ goal → Some c ≡ goal
  found_key c found h = ap (λ o. option_or o (find p (flat_map names (drop (i + 1) keys)))) found ∙ sym key_is ∙ h

-- one name more of those in front
take_next : (i : ℕ) (names : List CellName) (name : CellName) → i < length names → name ≡ get_or names i name → take (i + 1) names ≡ take i names ++ name ∷ []
take_next i [] name below at = absurd (omega arith)
take_next zero (x ∷ names) name below at = ap (λ c. c ∷ []) (sym at)
take_next (suc i) (x ∷ names) name below at =
    let next : suc i + 1 ≡ suc (i + 1) = omega arith in
    ap (λ n. take n (x ∷ names)) next ∙ ap (λ cs. x ∷ cs) (take_next i names name (omega arith) at)

-- names that are gone through one by one, where those before a place don't pass
module _ (p : CellName → Bool) (names : List CellName) (i : ℕ) (name : CellName) (below : i < length names) (at : name ≡ get_or names i name) (none : find p (take i names) ≡ None) where
  parts : find p names ≡ cond (p name) (Some name) (find p (drop (i + 1) names))
  parts =
      ap (find p) (sym (take-append-drop i names)) ∙ find_second p (take i names) (drop i names) none
      ∙ ap (find p) (drop-cons names i name below) ∙ ap (λ c. find p (c ∷ drop (suc i) names)) (sym at) ∙ ap (λ j. cond (p name) (Some name) (find p (drop j names))) (sym (add-one i))

  -- the one there doesn't pass either
  pub none_further : p name ≡ false → find p (take (i + 1) names) ≡ None
  none_further fails =
      ap (find p) (take_next i names name below at) ∙ find_second p (take i names) (name ∷ []) none ∙ ap (λ b. cond b (Some name) None) fails

  -- the one there is the first that passes
  pub first_there : p name ≡ true → slice_get names i ≡ find p names
  first_there passes = slice_get_read names (length names) i name refl below at ∙ sym (parts ∙ ap (λ b. cond b (Some name) (find p (drop (i + 1) names))) passes)

-- none passes
pub none_there : (p : CellName → Bool) (names : List CellName) (i : ℕ) → length names ≤ i → find p (take i names) ≡ None → slice_get names (length names) ≡ find p names
none_there p names i past none = slice_get_past names (length names) (omega arith) ∙ sym (ap (find p) (sym (take_all i names past)) ∙ none)

-- one list of names after two others, however they are grouped
pub names_append : (xs ys zs : List CellName) → (xs ++ ys) ++ zs ≡ xs ++ (ys ++ zs)
names_append xs ys zs = append_assoc xs ys zs
