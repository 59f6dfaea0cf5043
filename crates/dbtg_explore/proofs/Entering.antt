-- Keys without repetition, seen by what they say.
-- ks are keys, k is a key, items gives what a key says, alike tests whether two keys say the same.
use Rattle.std.proofs.Common.{◌≡◌, refl, sym, ◌∙◌, ap, subst, ℕ, ◌+◌, ◌<◌, Bool, true, false, not, List, [], ◌∷◌, ◌++◌, length, length-append, get_or, append-nil, map, inl, inr, ◌⊎◌, if◌then◌else◌, Some, arith, slice_get}
use Rattle.std.specs.Prelude.{◌==◌, ◌↔◌, Contains}
use Rattle.std.specs.List.{list_any}
use Rattle.std.proofs.lemmas.Bool.{cases_Bool, eq-eqb, eqb-true, or_parts, true≢false}
use Rattle.std.proofs.lemmas.List.{get_or-append-add, map_push}
use Rattle.std.proofs.lemmas.Option.{get_or_from_slice_get, same_Some, slice_get-get_or, slice_get_within}
use Rattle.dbtg_interned.specs.Kept.{AddsOnly, IsOnce, Keeps}
use Rattle.dbtg_explore.specs.Inside.Found.{FoundOrders, FoundPlaces, IsEntered, IsEnteredAt}
use Rattle.dbtg_explore.proofs.Searched.{contains_behind, contains_cases, contains_here, contains_none}
use Rattle.dbtg_explore.proofs.Ways.{stays_there}

module _ {K N : Type 0} (items : K → N) (alike : K → K → Bool) (decides : (j k : K) → (alike j k ≡ true) ↔ (items j ≡ items k)) where
  -- what the keys say
  abbrev numbers : List K → List N
  numbers ks = map items ks

  -- one of the keys says the same
  abbrev is_there : List K → K → Bool
  is_there ks k = list_any (alike k) ks

  known : (ks : List K) (k : K) → is_there ks k ≡ true → Contains (numbers ks) (items k)
  known [] k h = absurd (true≢false (sym h))
  known (j ∷ ks) k h =
      elim (cases_Bool (alike k j)) [
        | inl e ↦ subst (Contains (numbers (j ∷ ks))) (sym ((decides k j).0 e)) (contains_here (items j) (numbers ks))
        | inr e ↦ contains_behind (items j) (numbers ks) (items k) (known ks k (sym (rw e refl) ∙ h))
      ]

  absent : (ks : List K) (k : K) → is_there ks k ≡ false → Contains (numbers ks) (items k) → ⊥
  absent [] k h c = contains_none (items k) c
  absent (j ∷ ks) k h c =
      let parts = or_parts _ _ h in
      elim (contains_cases (items j) (numbers ks) (items k) c) [
        | inl e ↦ true≢false (sym ((decides k j).1 (sym e)) ∙ parts.0)
        | inr d ↦ absent ks k parts.1 d
      ]

  not_true : (b : Bool) → true ≡ not b → b ≡ false
  not_true true e = e
  not_true false e = refl

  not_false : (b : Bool) → false ≡ not b → b ≡ true
  not_false true e = refl
  not_false false e = e

  module _ (ks new_ks : List K) (k : K) (is_new : Bool) (told : is_new ≡ not (is_there ks k)) (are : new_ks ≡ (if is_there ks k then ks else ks ++ k ∷ [])) (orders : List (List ℕ)) (old : FoundOrders N) (old_is : record { keys = numbers ks; orders = orders } ≡ old) (order : List ℕ) where
    -- a new key comes after the others
    pub is_entered : (new_orders : List (List ℕ)) → is_new ≡ true → new_orders ≡ orders ++ order ∷ [] → IsEntered old (items k) order (record { keys = numbers new_ks; orders = new_orders })
    is_entered new_orders fresh more =
        let gone : is_there ks k ≡ false = not_true (is_there ks k) (sym fresh ∙ told) in
        subst (λ o. IsEntered o (items k) order (record { keys = numbers new_ks; orders = new_orders })) old_is
        (inr (record {
          absent = absent ks k gone;
          keys_are = ap numbers (are ∙ ap (λ b. if b then ks else ks ++ k ∷ []) gone) ∙ map_push items ks k;
          orders_are = more;
        }))

    -- a known key changes nothing
    pub is_entered_before : is_new ≡ false → IsEntered old (items k) order (record { keys = numbers new_ks; orders = orders })
    is_entered_before stale =
        let there : is_there ks k ≡ true = not_false (is_there ks k) (sym stale ∙ told) in
        let same : new_ks ≡ ks = are ∙ ap (λ b. if b then ks else ks ++ k ∷ []) there in
        subst (λ o. IsEntered o (items k) order (record { keys = numbers new_ks; orders = orders })) old_is
        (inl (known ks k there, λ i. record { keys = numbers (same i); orders = orders }))

-- KEYS THAT ARE NUMBERS

all_same : (ns : List ℕ) → map (λ (n : ℕ). n) ns ≡ ns
all_same [] = refl
all_same (n ∷ ns) = ap (λ l. n ∷ l) (all_same ns)

same_or_not : (j k : ℕ) → ((j == k) ≡ true) ↔ (j ≡ k)
same_or_not j k = (eqb-true j k, eq-eqb j k)

-- a number stands where one stands that equals it
pub number_stored : (ks : List ℕ) (i n : ℕ) → (k : ℕ) × (slice_get ks i ≡ Some k) × ((n == k) ≡ true) → slice_get ks i ≡ Some n
number_stored ks i n h = h.1 ∙ ap Some (sym (eqb-true n h.0 h.2))

module _ (ks new_ks : List ℕ) (k : ℕ) (is_new : Bool) (told : is_new ≡ not (list_any (λ j. k == j) ks)) (are : new_ks ≡ (if list_any (λ j. k == j) ks then ks else ks ++ k ∷ [])) (orders : List (List ℕ)) (old : FoundOrders ℕ) (old_is : record { keys = ks; orders = orders } ≡ old) (order : List ℕ) where
  pub number_entered : (new_orders : List (List ℕ)) → is_new ≡ true → new_orders ≡ orders ++ order ∷ [] → IsEntered old k order (record { keys = new_ks; orders = new_orders })
  number_entered new_orders fresh more =
      subst (λ ns. IsEntered old k order (record { keys = ns; orders = new_orders })) (all_same new_ks)
      (is_entered (λ (n : ℕ). n) (λ i j. i == j) same_or_not ks new_ks k is_new told are orders old ((λ i. record { keys = all_same ks i; orders = orders }) ∙ old_is) order new_orders fresh more)

  pub number_entered_before : is_new ≡ false → IsEntered old k order (record { keys = new_ks; orders = orders })
  number_entered_before stale =
      subst (λ ns. IsEntered old k order (record { keys = ns; orders = orders })) (all_same new_ks)
      (is_entered_before (λ (n : ℕ). n) (λ i j. i == j) same_or_not ks new_ks k is_new told are orders old ((λ i. record { keys = all_same ks i; orders = orders }) ∙ old_is) order stale)

-- TEXTS THAT ARE KEPT

module _ (old new : List (List ℕ)) (text : List ℕ) (n : ℕ) (once : IsOnce new) (keeps : Keeps old new) (adds : AddsOnly old text new) (at : slice_get new n ≡ Some text) where
  -- behind the old ones there is only this text
  added_is : (k : ℕ) (t : List ℕ) → slice_get new (length old + k) ≡ Some t → n ≡ length old + k
  added_is k t there =
      elim (adds (length old + k) t there) [
        | inl before ↦ let low = slice_get_within old (length old + k) t before in absurd (omega (arith, low))
        | inr is ↦ once n (length old + k) text at (there ∙ ap Some is)
      ]

  behind_at : (rest : List (List ℕ)) → new ≡ old ++ rest → (k : ℕ) (d : List ℕ) → k < length rest → slice_get new (length old + k) ≡ Some (get_or rest k d)
  behind_at rest is k d low =
      let long = length-append old rest in
      ap (λ ts. slice_get ts (length old + k)) is ∙ slice_get-get_or (old ++ rest) (length old + k) d (omega (arith, low, long)) ∙ ap Some (get_or-append-add old rest k d)

  -- it is an old one, or the last
  pub text_entered : ((n < length old) × (new ≡ old)) ⊎ ((n ≡ length old) × (new ≡ old ++ text ∷ []))
  text_entered = by keeps.rest keeps.new_is where
    by : (rest : List (List ℕ)) → new ≡ old ++ rest → ((n < length old) × (new ≡ old)) ⊎ ((n ≡ length old) × (new ≡ old ++ text ∷ []))
    by [] is =
        let same : new ≡ old = is ∙ append-nil old in
        inl (slice_get_within old n text (ap (λ ts. slice_get ts n) (sym same) ∙ at), same)
    by (t ∷ []) is =
        let there = behind_at (t ∷ []) is 0 t (omega arith) in
        let here = added_is 0 t there in
        let last : n ≡ length old = omega (arith, here) in
        let one : t ≡ text = same_Some t text (sym there ∙ ap (slice_get new) (sym here) ∙ at) in
        inr (last, is ∙ ap (λ (s : List ℕ). old ++ s ∷ []) one)
    by (t ∷ s ∷ rest) is =
        let first = added_is 0 t (behind_at (t ∷ s ∷ rest) is 0 t (omega arith)) in
        let second = added_is 1 s (behind_at (t ∷ s ∷ rest) is 1 t (omega arith)) in
        absurd (omega (arith, first, second))

  module _ (places : List ℕ) (f : FoundPlaces) (f_is : record { texts = old; places = places } ≡ f) (place : ℕ) (long : length places ≡ length old) where
    -- a new text
    pub text_new : (more : List ℕ) → n ≡ length places → more ≡ places ++ place ∷ [] → IsEnteredAt f text place (record { texts = new; places = more })
    text_new more last pushed =
        elim text_entered [
          | inl before ↦ let low = before.0 in absurd (omega (arith, low, last, long))
          | inr fresh ↦ subst (λ g. IsEnteredAt g text place (record { texts = new; places = more })) f_is
              (inr (record {
                absent = λ c.
                    let low = c.1 in
                    let there : slice_get new c.0 ≡ Some text = ap (λ ts. slice_get ts c.0) fresh.1 ∙ stays_there old (text ∷ []) c.0 text (slice_get-get_or old c.0 text low ∙ ap Some c.2) in
                    let same = once n c.0 text at there in
                    let is = fresh.0 in
                    omega (arith, same, is, low);
                texts_are = fresh.1;
                places_are = pushed;
              }))
        ]

    -- a text that is there
    pub text_known : (n ≡ length places → ⊥) → IsEnteredAt f text place (record { texts = new; places = places })
    text_known other =
        elim text_entered [
          | inl before ↦ subst (λ g. IsEnteredAt g text place (record { texts = new; places = places })) f_is
              (inl ((n, before.0, get_or_from_slice_get old n text _ (ap (λ ts. slice_get ts n) (sym before.1) ∙ at)), λ i. record { texts = before.1 i; places = places }))
          | inr fresh ↦ absurd (other (fresh.0 ∙ sym long))
        ]
