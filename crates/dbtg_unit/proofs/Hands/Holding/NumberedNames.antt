-- Names that stand at the numbers of their cells.
use Rattle.std.proofs.Common.{◌≡◌, refl, sym, ◌∙◌, ap, ℕ, zero, suc, ◌+◌, ◌-◌, ◌<◌, ◌≤◌, Bool, true, false, cond, nat_lt, List, [], ◌∷◌, ◌++◌, length, Option, Some, None, inl, inr, arith, true≢false, slice_get}
use Rattle.std.specs.List.{position_from}
use Rattle.std.specs.Option.{option_map_or}
use Rattle.std.proofs.lemmas.Bool.{cases_Bool}
use Rattle.std.proofs.lemmas.List.{length-append}
use Rattle.std.proofs.lemmas.Bool.Decides.{nat_tests}
use Rattle.dbtg_cells.specs.declared.name.CellName.{CellName}
use Rattle.dbtg_cells.specs.declared.numbering.Layout.{Layout}
use Rattle.dbtg_cells.specs.CellNumbers.{place_in}
use Rattle.dbtg_cells.specs.Names.{name_eq}
use Rattle.dbtg_cells.proofs.Public.{at_left, name_eq_refl, same_name}
use Rattle.dbtg_unit.specs.Hands.Hands.{StandAtNumbers}
use Rattle.dbtg_unit.specs.declared.names.FirstNames.{FirstNames}
use Rattle.dbtg_unit.specs.declared.names.FirstNames.TheVariants.{InPlace, Numbered}
use Rattle.dbtg_unit.specs.declared.names.NameKey.{NameKey}
use Rattle.dbtg_unit.specs.Inside.HeldNames.{AreNumbered, IsIndexOf, first_count, name_key, past, up_to}
use Rattle.dbtg_unit.proofs.Hands.Holding.IndexOfNames.{position_above, position_within}

module _ (c : CellName) where
  -- a name that stands somewhere is found there or before
  first_at : (base : ℕ) (names : List CellName) (n : ℕ) → slice_get names n ≡ Some c → (p : ℕ) × (position_from (name_eq c) base names ≡ Some p) × (p ≤ base + n)
  first_at base [] n e = absurd (cc (e))
  first_at base (d ∷ names) zero e =
      let here : d ≡ c = cc (e) in
      (base, ap (λ b. cond b (Some base) (position_from (name_eq c) (base + 1) names)) (ap (name_eq c) here ∙ name_eq_refl c), omega arith)
  first_at base (d ∷ names) (suc n) e =
      let later = first_at (base + 1) names n e in
      let within = later.2 in
      elim (cases_Bool (name_eq c d)) [
        | inl same ↦ (base, ap (λ b. cond b (Some base) (position_from (name_eq c) (base + 1) names)) same, omega arith)
        | inr other ↦ (later.0, ap (λ b. cond b (Some base) (position_from (name_eq c) (base + 1) names)) other ∙ later.1, omega (arith, within))
      ]

  -- where a name is found, it stands
  stands_there : (base : ℕ) (names : List CellName) (p : ℕ) → position_from (name_eq c) base names ≡ Some p → slice_get names (p - base) ≡ Some c
  stands_there base [] p e = absurd (cc (e))
  stands_there base (d ∷ names) p e =
      elim (cases_Bool (name_eq c d)) [
        | inl same ↦
            let first : Some base ≡ Some p = sym (ap (λ b. cond b (Some base) (position_from (name_eq c) (base + 1) names)) same) ∙ e in
            let is : base ≡ p = cc (first) in
            let none : p - base ≡ 0 = omega (arith, is) in
            ap (slice_get (d ∷ names)) none ∙ ap Some (sym (same_name c d same))
        | inr other ↦
            let later : position_from (name_eq c) (base + 1) names ≡ Some p = sym (ap (λ b. cond b (Some base) (position_from (name_eq c) (base + 1) names)) other) ∙ e in
            let above = position_above (name_eq c) (base + 1) names p later in
            let next : p - base ≡ suc (p - (base + 1)) = omega (arith, above) in
            ap (slice_get (d ∷ names)) next ∙ stands_there (base + 1) names p later
      ]

  stands_at_place : (names : List CellName) (p : ℕ) → position_from (name_eq c) 0 names ≡ Some p → slice_get names p ≡ Some c
  stands_at_place names p e = let all : p ≡ p - 0 = omega arith in ap (slice_get names) all ∙ stands_there 0 names p e

  -- a name that compares alike is the one that stands there
  pub held_there : (o : Option CellName) → option_map_or (name_eq c) o false ≡ true → o ≡ Some c
  held_there None e = absurd (true≢false (sym e))
  held_there (Some d) e = ap Some (sym (same_name c d e))

  pub compares_alike : (o : Option CellName) → o ≡ Some c → option_map_or (name_eq c) o false ≡ true
  compares_alike o e = ap (λ x. option_map_or (name_eq c) x false) e ∙ name_eq_refl c

module _ (layout : Layout) (count : ℕ) (names : List CellName) (numbered : StandAtNumbers layout count names) where
  -- the name at its own number is the first of its kind
  pub found_at_number : (c : CellName) → place_in layout c < count → slice_get names (place_in layout c) ≡ Some c → position_from (name_eq c) 0 names ≡ Some (place_in layout c)
  found_at_number c within e =
      let first = first_at c 0 names (place_in layout c) e in
      let least = first.2 in
      let there : slice_get names first.0 ≡ Some c = stands_at_place c names first.0 first.1 in
      let same : place_in layout c ≡ first.0 = numbered first.0 c (omega (arith, least, within)) there in
      first.1 ∙ ap Some (sym same)

  -- a name that does not stand at its number stands past the numbered names
  pub found_past_numbers : (c : CellName) → (place_in layout c < count → slice_get names (place_in layout c) ≡ Some c → ⊥) → past count (position_from (name_eq c) 0 names) ≡ position_from (name_eq c) 0 names
  found_past_numbers c nowhere = by (position_from (name_eq c) 0 names) refl
    where
      by : (o : Option ℕ) → position_from (name_eq c) 0 names ≡ o → past count o ≡ o
      by None h = refl
      by (Some p) h =
          elim (cases_Bool (nat_lt p count)) [
            | inl few ↦
                let within : p < count = grind (arith, nat_tests) in
                let there : slice_get names p ≡ Some c = stands_at_place c names p h in
                let same : place_in layout c ≡ p = numbered p c within there in
                absurd (nowhere (omega (arith, same, within)) (ap (slice_get names) same ∙ there))
            | inr many ↦ ap (λ b. cond b None (Some p)) many
          ]

-- an index that leads nowhere, where all names are first ones
pub all_are_first : (index : NameKey → Option ℕ) (names : List CellName) → ((q : NameKey) → index q ≡ None) → IsIndexOf index (length names) names
all_are_first index names nowhere c = nowhere (name_key c) ∙ by (position_from (name_eq c) 0 names) refl
  where
    by : (o : Option ℕ) → position_from (name_eq c) 0 names ≡ o → None ≡ past (length names) o
    by None h = refl
    by (Some p) h =
        let within = position_within (name_eq c) 0 names p h in
        let few : nat_lt p (length names) ≡ true = grind (arith, nat_tests) in
        sym (ap (λ b. cond b None (Some p)) few)

pub all_are_numbered : (layout : Layout) (names : List CellName) → StandAtNumbers layout (length names) names → AreNumbered (Numbered layout (length names)) names
all_are_numbered layout names numbered l count is =
    let same : layout ≡ l = cc (is) in
    let all : length names ≡ count = cc (is) in
    (omega (arith, all), λ n c within e. ap (λ k. place_in k c) (sym same) ∙ numbered n c (omega (arith, within, all)) e)

in_front : (names : List CellName) (d : CellName) (n : ℕ) → n < length names → slice_get (names ++ d ∷ []) n ≡ slice_get names n
in_front [] d n within = absurd (omega (arith, within))
in_front (c ∷ names) d zero within = refl
in_front (c ∷ names) d (suc n) within = in_front names d n (omega (arith, within))

-- one more name
pub numbered_more : (first : FirstNames) (names : List CellName) (d : CellName) → AreNumbered first names → AreNumbered first (names ++ d ∷ [])
numbered_more first names d numbered layout count is =
    let old = numbered layout count is in
    let few = old.0 in
    (omega (arith, few, length-append names (d ∷ [])), λ n c within e. old.1 n c within (sym (in_front names d n (omega (arith, few, within))) ∙ e))

-- one name less
pub numbered_less : (first : FirstNames) (names : List CellName) (d : CellName) → AreNumbered first (names ++ d ∷ []) → AreNumbered (up_to (length names) first) names
numbered_less InPlace names d numbered layout count is = absurd (cc (is))
numbered_less (Numbered l m) names d numbered layout count is =
    let old = numbered l m refl in
    let same : l ≡ layout = cc (is) in
    let least : cond (nat_lt (length names) m) (length names) m ≡ count = cc (is) in
    let both = at_most (nat_lt (length names) m) refl least in
    let within_m = both.1 in
    (both.0, λ n c within e. ap (λ k. place_in k c) (sym same) ∙ old.1 n c (omega (arith, within, within_m)) (at_left names (d ∷ []) n c e))
  where
    at_most : (b : Bool) → nat_lt (length names) m ≡ b → cond b (length names) m ≡ count → (count ≤ length names) × (count ≤ m)
    at_most true h e = (omega (arith, e), grind (arith, nat_tests))
    at_most false h e = (grind (arith, nat_tests), omega (arith, e))

pub index_less : (index : NameKey → Option ℕ) (first : FirstNames) (names : List CellName) → IsIndexOf index (first_count first) names → IsIndexOf index (first_count (up_to (length names) first)) names
index_less index InPlace names is = is
index_less index (Numbered l m) names is = λ c. is c ∙ by c (nat_lt (length names) m) refl (position_from (name_eq c) 0 names) refl
  where
    by : (c : CellName) (b : Bool) → nat_lt (length names) m ≡ b → (o : Option ℕ) → position_from (name_eq c) 0 names ≡ o → past m o ≡ past (cond b (length names) m) o
    by c b q None h = refl
    by c false q (Some p) h = refl
    by c true q (Some p) h =
        let within = position_within (name_eq c) 0 names p h in
        let old : nat_lt p m ≡ true = grind (arith, nat_tests) in
        let new : nat_lt p (length names) ≡ true = grind (arith, nat_tests) in
        ap (λ b. cond b None (Some p)) (old ∙ sym new)
