-- Names that are sorted: the first that passes a test is the least that does.
-- Uses: the order of names. Promises: `names_rank`, `sorted_around`.
use Rattle.std.proofs.Common.{◌≡◌, refl, sym, ◌∙◌, subst, get_or, length, ℕ, zero, suc, ◌<◌, ◌≤◌, Bool, false, List, [], ◌∷◌, None, arith, inl, inr}
use Rattle.std.specs.Prelude.{filter}
use Rattle.std.specs.Cmp.{IsStrictWeakOrder}
use Rattle.std.specs.List.{All, find}
use Rattle.std.specs.List.Sorted.{IsPermutation, IsSortedBy}
use Rattle.std.proofs.lemmas.Bool.{false≢true, false_from_ne_true}
use Rattle.std.proofs.lemmas.List.Sorted.{All-permutation, IsPermutation-sym, sorted_far}
use Rattle.dbtg_cells.specs.declared.name.CellName.{CellName}
use Rattle.dbtg_cells.specs.Names.{name_below}
use Rattle.dbtg_unit.proofs.Public.{In, name_chain, name_never, name_total}
use Rattle.dbtg_erase.specs.NextCell.{least_name}
use Rattle.dbtg_erase.proofs.LeastName.{Ascends, AtOrBehind, first_is_least}

-- a name that does not come before another is that name or comes after it
behind_of : (c d : CellName) → name_below d c ≡ false → AtOrBehind c d
behind_of c d h = elim (name_total c d) [
  | inl less ↦ inr less
  | inr (inl same) ↦ inl (sym same)
  | inr (inr more) ↦ absurd (false≢true (sym h ∙ more))
]

pub names_rank : IsStrictWeakOrder name_below
names_rank = record {
  one_way = λ c d h. false_from_ne_true _ (λ g. name_never c (name_chain c d c h g));
  chain = λ c d e h g. by c d e (behind_of d c h) (behind_of e d g);
} where
  by : (c d e : CellName) → AtOrBehind d c → AtOrBehind e d → name_below c e ≡ false
  by c d e (inl same) (inl alike) = subst (λ (x : CellName). name_below x e ≡ false) (sym (same ∙ alike)) (false_from_ne_true _ (name_never e))
  by c d e (inl same) (inr more) = subst (λ (x : CellName). name_below x e ≡ false) (sym same) (false_from_ne_true _ (λ g. name_never d (name_chain d e d g more)))
  by c d e (inr more) (inl alike) = subst (λ (x : CellName). name_below c x ≡ false) alike (false_from_ne_true _ (λ g. name_never c (name_chain c d c g more)))
  by c d e (inr more) (inr rest) = false_from_ne_true _ (λ g. name_never c (name_chain c e c g (name_chain e d c rest more)))

-- where an element stands
place_of : (x : CellName) (xs : List CellName) → In x xs → (j : ℕ) × (j < length xs) × ((d : CellName) → get_or xs j d ≡ x)
place_of x [] i = absurd i
place_of x (y ∷ xs) (inl e) = (0, omega arith, λ d. e)
place_of x (y ∷ xs) (inr i) = let j = place_of x xs i in (suc j.0, omega arith, j.2)

-- the elements one by one
in_each : (P : CellName → Type 0) (xs : List CellName) → All P xs → (x : CellName) → In x xs → P x
in_each P xs all x i = let j = place_of x xs i in subst P (j.2 x) (all j.0 x j.1)

all_in : (P : CellName → Type 0) (xs : List CellName) → ((x : CellName) → In x xs → P x) → All P xs
all_in P xs h k d below = h (get_or xs k d) (element xs k below) where
  element : (xs : List CellName) (k : ℕ) → k < length xs → In (get_or xs k d) xs
  element [] k below = absurd (omega arith)
  element (x ∷ xs) zero below = inl refl
  element (x ∷ xs) (suc k) below = inr (element xs k (omega arith))

-- in another order the elements are the same
same_elements : (xs ys : List CellName) → IsPermutation xs ys → (c : CellName) → In c ys → In c xs
same_elements xs ys moved = in_each (λ c. In c xs) ys (All-permutation (λ c. In c xs) xs ys moved (all_in (λ c. In c xs) xs (λ x i. i)))

ascends_far : (xs : List CellName) → ((i j : ℕ) (d : CellName) → i ≤ j → j < length xs → name_below (get_or xs j d) (get_or xs i d) ≡ false) → Ascends xs
ascends_far [] far = tt
ascends_far (x ∷ xs) far = (λ d i. first d (place_of d xs i), ascends_far xs (λ i j d le below. far (suc i) (suc j) d (omega arith) (omega arith))) where
  first : (d : CellName) → (j : ℕ) × (j < length xs) × ((e : CellName) → get_or xs j e ≡ d) → AtOrBehind x d
  first d j = behind_of x d (subst (λ (y : CellName). name_below y x ≡ false) (j.2 d) (far 0 (suc j.0) d (omega arith) (omega arith)))

-- the first of sorted names that passes is the least that passes in any order
pub sorted_around : (xs ys : List CellName) → IsPermutation xs ys → IsSortedBy name_below ys → (p : CellName → Bool) → find p ys ≡ least_name None (filter p xs)
sorted_around xs ys moved sorted p =
    first_is_least p ys xs (ascends_far ys (sorted_far name_below names_rank ys sorted)) (same_elements xs ys moved) (same_elements ys xs (IsPermutation-sym xs ys moved))
