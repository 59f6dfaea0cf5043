-- The index of the held names, as names come and go.
use Rattle.std.proofs.Common.{◌≡◌, refl, sym, ◌∙◌, ap, ℕ, zero, suc, ◌+◌, ◌<◌, ◌≤◌, Bool, true, false, cond, nat_lt, ◌&&◌, ◌==◌, List, [], ◌∷◌, ◌++◌, length, Option, Some, None, inl, inr, arith, true≢false, Result, Ok, Err, OnOk}
use Rattle.std.specs.Prelude.{is_err, take, ◌||◌}
use Rattle.std.specs.List.{list_any, position_from, zip}
use Rattle.std.specs.Option.{option_map_or, option_or}
use Rattle.std.proofs.lemmas.Bool.{cases_Bool, eq-eqb}
use Rattle.std.proofs.lemmas.Bool.Decides.{nat_tests}
use Rattle.dbtg_schema.proofs.Public.{or_none, position_more}
use Rattle.dbtg_cells.specs.declared.cell.Cell.{Cell}
use Rattle.dbtg_cells.specs.declared.name.CellName.{CellName}
use Rattle.dbtg_cells.specs.declared.name.CellName.TheVariants.{Usage, Extent, Ring, Slot}
use Rattle.dbtg_cells.specs.Names.{name_eq}
use Rattle.dbtg_cells.proofs.Public.{name_eq_refl, same_name}
use Rattle.dbtg_unit.specs.declared.names.NameKey.{NameKey}
use Rattle.dbtg_unit.specs.Inside.HeldNames.{key_eq, name_key, past, IsIndexOf, entered, left}

-- what is said of a value that is there
pub when_ok : {T E : Type 0} {P : Type 0} (r : Result T E) → is_err r ≡ false → OnOk r P → P
when_ok (Ok x) ok h = h
when_ok (Err e) ok h = absurd (true≢false ok)

-- two names are the same where their keys are
pub keys_tell : (c d : CellName) → key_eq (name_key d) (name_key c) ≡ name_eq c d
keys_tell (Usage a) (Usage b) = grind (arith, nat_tests)
keys_tell (Extent t) (Extent u) = grind (arith, nat_tests)
keys_tell (Ring s None) (Ring t None) = grind (arith, nat_tests)
keys_tell (Ring s (Some p)) (Ring t (Some q)) = grind (arith, nat_tests)
keys_tell (Slot t n) (Slot u m) = grind (arith, nat_tests)
keys_tell (Ring s None) (Ring t (Some q)) = grind (arith, nat_tests)
keys_tell (Ring s (Some p)) (Ring t None) = grind (arith, nat_tests)
keys_tell (Usage a) (Extent u) = refl
keys_tell (Usage a) (Ring t None) = refl
keys_tell (Usage a) (Ring t (Some q)) = refl
keys_tell (Usage a) (Slot u m) = refl
keys_tell (Extent t) (Usage b) = refl
keys_tell (Extent t) (Ring u None) = refl
keys_tell (Extent t) (Ring u (Some q)) = refl
keys_tell (Extent t) (Slot u m) = refl
keys_tell (Ring s None) (Usage b) = refl
keys_tell (Ring s None) (Extent u) = refl
keys_tell (Ring s None) (Slot u m) = refl
keys_tell (Ring s (Some p)) (Usage b) = refl
keys_tell (Ring s (Some p)) (Extent u) = refl
keys_tell (Ring s (Some p)) (Slot u m) = refl
keys_tell (Slot t n) (Usage b) = refl
keys_tell (Slot t n) (Extent u) = refl
keys_tell (Slot t n) (Ring u None) = refl
keys_tell (Slot t n) (Ring u (Some q)) = refl

-- no place lies past the end
pub position_within : (t : CellName → Bool) (base : ℕ) (xs : List CellName) (p : ℕ) → position_from t base xs ≡ Some p → p < base + length xs
position_within t base [] p h = absurd (cc)
position_within t base (x ∷ xs) p h =
    elim (cases_Bool (t x)) [
      | inl same ↦
          let first : Some base ≡ Some p = sym (ap (λ b. cond b (Some base) (position_from t (base + 1) xs)) same) ∙ h in
          let is : base ≡ p = cc in
          omega arith
      | inr other ↦
          let later : position_from t (base + 1) xs ≡ Some p = sym (ap (λ b. cond b (Some base) (position_from t (base + 1) xs)) other) ∙ h in
          let within = position_within t (base + 1) xs p later in
          omega arith
    ]

-- where a name stands first, in a list with one name more
abbrev place_more : (c n : CellName) → List CellName → Option ℕ
place_more c n names = option_or (position_from (name_eq c) 0 names) (cond (name_eq c n) (Some (length names)) None)

place_of_more : (c n : CellName) (names : List CellName) → position_from (name_eq c) 0 (names ++ n ∷ []) ≡ place_more c n names
place_of_more c n names =
    let e : 0 + length names ≡ length names = omega arith in
    position_more (name_eq c) 0 names n ∙ ap (λ (k : ℕ). option_or (position_from (name_eq c) 0 names) (cond (name_eq c n) (Some k) None)) e

-- a name that is not held stands nowhere
pub stands_nowhere : (c : CellName) (base : ℕ) (names : List CellName) (cells : List Cell) → length cells ≡ length names → list_any (λ (e : CellName × Cell). name_eq c e.0) (zip names cells) ≡ false → position_from (name_eq c) base names ≡ None
stands_nowhere c base [] cells long none = refl
stands_nowhere c base (n ∷ ns) [] long none = let h : 0 ≡ length ns + 1 = omega (arith, long) in absurd (omega (arith, h))
stands_nowhere c base (n ∷ ns) (x ∷ xs) long none =
    let rest = list_any (λ (e : CellName × Cell). name_eq c e.0) (zip ns xs) in
    elim (cases_Bool (name_eq c n)) [
      | inl same ↦ absurd (true≢false (sym (ap (λ b. b || rest) same) ∙ none))
      | inr other ↦
          ap (λ b. cond b (Some base) (position_from (name_eq c) (base + 1) ns)) other
          ∙ stands_nowhere c (base + 1) ns xs (omega (arith, long)) (sym (ap (λ b. b || rest) other) ∙ none)
    ]

-- no place lies in front of the first
pub position_above : (t : CellName → Bool) (base : ℕ) (xs : List CellName) (p : ℕ) → position_from t base xs ≡ Some p → base ≤ p
position_above t base [] p h = absurd (cc (h))
position_above t base (x ∷ xs) p h =
    elim (cases_Bool (t x)) [
      | inl same ↦
          let first : Some base ≡ Some p = sym (ap (λ b. cond b (Some base) (position_from t (base + 1) xs)) same) ∙ h in
          let is : base ≡ p = cc in
          omega arith
      | inr other ↦
          let later : position_from t (base + 1) xs ≡ Some p = sym (ap (λ b. cond b (Some base) (position_from t (base + 1) xs)) other) ∙ h in
          let above = position_above t (base + 1) xs p later in
          omega arith
    ]

-- this many first names, from none of which the index leads anywhere
module _ (count : ℕ) where
  -- one more name among them changes nothing past them
  in_place_more : (o : Option ℕ) (b : Bool) (len : ℕ) → nat_lt len count ≡ true → past count (option_or o (cond b (Some len) None)) ≡ past count o
  in_place_more (Some p) b len few = refl
  in_place_more None true len few = ap (λ c. cond c None (Some len)) few
  in_place_more None false len few = refl

  -- one more name, which was not there, past those that live in place
  past_more : (o : Option ℕ) (b : Bool) (len : ℕ) → nat_lt len count ≡ false → (b ≡ true → o ≡ None) → option_or (past count o) (cond b (Some len) None) ≡ past count (option_or o (cond b (Some len) None))
  past_more None true len many new = sym (ap (λ c. cond c None (Some len)) many)
  past_more None false len many new = refl
  past_more (Some p) true len many new = let h = new refl in absurd (cc (h))
  past_more (Some p) false len many new = or_none (past count (Some p))

  -- one more name
  pub pushed_index : (old new : NameKey → Option ℕ) (names : List CellName) (n : CellName) → position_from (name_eq n) 0 names ≡ None → IsIndexOf old count names → ((q : NameKey) → new q ≡ entered old count (name_key n) (length names) q) → IsIndexOf new count (names ++ n ∷ [])
  pushed_index old new names n fresh is enters c =
      elim (cases_Bool (nat_lt (length names) count)) [
        | inl few ↦
            enters (name_key c)
            ∙ ap (λ b. cond b (old (name_key c)) (option_or (old (name_key c)) (cond (key_eq (name_key n) (name_key c)) (Some (length names)) None))) few
            ∙ is c
            ∙ sym (in_place_more (position_from (name_eq c) 0 names) (name_eq c n) (length names) few)
            ∙ ap (past count) (sym (place_of_more c n names))
        | inr many ↦
            enters (name_key c)
            ∙ ap (λ b. cond b (old (name_key c)) (option_or (old (name_key c)) (cond (key_eq (name_key n) (name_key c)) (Some (length names)) None))) many
            ∙ ap (λ o. option_or o (cond (key_eq (name_key n) (name_key c)) (Some (length names)) None)) (is c)
            ∙ ap (λ b. option_or (past count (position_from (name_eq c) 0 names)) (cond b (Some (length names)) None)) (keys_tell c n)
            ∙ past_more (position_from (name_eq c) 0 names) (name_eq c n) (length names) many (λ same. ap (λ d. position_from (name_eq d) 0 names) (same_name c n same) ∙ fresh)
            ∙ ap (past count) (sym (place_of_more c n names))
      ]

  -- what stood last is gone, and what stood in front of it stays
  gone : (o : Option ℕ) (len : ℕ) → nat_lt len count ≡ false → ((p : ℕ) → o ≡ Some p → p < len) → cond (option_map_or (λ p. p == len) (past count (option_or o (Some len))) false) None (past count (option_or o (Some len))) ≡ past count o
  gone None len many within =
      ap (λ c. cond (option_map_or (λ p. p == len) (cond c None (Some len)) false) None (cond c None (Some len))) many ∙ ap (λ b. cond b None (Some len)) (eq-eqb len len refl)
  gone (Some p) len many within =
      let h = within p refl in
      let other : p == len ≡ false = grind (arith, nat_tests) in
      elim (nat_lt p count) as (λ c. cond (option_map_or (λ p. p == len) (cond c None (Some p)) false) None (cond c None (Some p)) ≡ cond c None (Some p)) [
        | true ↦ refl
        | false ↦ ap (λ b. cond b None (Some p)) other
      ]

  many_popped : (old new : NameKey → Option ℕ) (names : List CellName) (n : CellName) → nat_lt (length names) count ≡ false → IsIndexOf old count (names ++ n ∷ []) → ((q : NameKey) → new q ≡ cond (key_eq (name_key n) q && option_map_or (λ p. p == length names) (old (name_key n)) false) None (old q)) → IsIndexOf new count names
  many_popped old new names n many is leaves c =
      let at = λ (d : CellName). is d ∙ ap (past count) (place_of_more d n names) in
      let told : new (name_key c) ≡ cond (name_eq c n && option_map_or (λ p. p == length names) (old (name_key n)) false) None (old (name_key c)) =
      leaves (name_key c) ∙ ap (λ b. cond (b && option_map_or (λ p. p == length names) (old (name_key n)) false) None (old (name_key c))) (keys_tell c n) in
      elim (cases_Bool (name_eq c n)) [
        | inl same ↦
            let is_n : c ≡ n = same_name c n same in
            let here : old (name_key n) ≡ past count (option_or (position_from (name_eq n) 0 names) (Some (length names))) = at n ∙ ap (λ b. past count (option_or (position_from (name_eq n) 0 names) (cond b (Some (length names)) None))) (name_eq_refl n) in
            told
            ∙ ap (λ b. cond (b && option_map_or (λ p. p == length names) (old (name_key n)) false) None (old (name_key c))) same
            ∙ ap (λ d. cond (option_map_or (λ p. p == length names) (old (name_key n)) false) None (old (name_key d))) is_n
            ∙ ap (λ o. cond (option_map_or (λ p. p == length names) o false) None o) here
            ∙ gone (position_from (name_eq n) 0 names) (length names) many (λ p h. let within = position_within (name_eq n) 0 names p h in omega (arith, within))
            ∙ ap (λ d. past count (position_from (name_eq d) 0 names)) (sym is_n)
        | inr other ↦
            told
            ∙ ap (λ b. cond (b && option_map_or (λ p. p == length names) (old (name_key n)) false) None (old (name_key c))) other
            ∙ at c
            ∙ ap (λ b. past count (option_or (position_from (name_eq c) 0 names) (cond b (Some (length names)) None))) other
            ∙ ap (past count) (or_none (position_from (name_eq c) 0 names))
      ]

  -- one name less
  pub popped_index : (old new : NameKey → Option ℕ) (names : List CellName) (n : CellName) → IsIndexOf old count (names ++ n ∷ []) → ((q : NameKey) → new q ≡ left old count (name_key n) (length names) q) → IsIndexOf new count names
  popped_index old new names n is leaves =
      elim (cases_Bool (nat_lt (length names) count)) [
        | inl few ↦
            λ c.
            leaves (name_key c)
            ∙ ap (λ b. cond b (old (name_key c)) (cond (key_eq (name_key n) (name_key c) && option_map_or (λ p. p == length names) (old (name_key n)) false) None (old (name_key c)))) few
            ∙ is c
            ∙ ap (past count) (place_of_more c n names)
            ∙ in_place_more (position_from (name_eq c) 0 names) (name_eq c n) (length names) few
        | inr many ↦
            many_popped old new names n many is
            (λ q. leaves q ∙ ap (λ b. cond b (old q) (cond (key_eq (name_key n) q && option_map_or (λ p. p == length names) (old (name_key n)) false) None (old q))) many)
      ]

  -- a place past those of the names that live in place is the first
  pub found_past : (o : Option ℕ) (at : ℕ) → past count o ≡ Some at → o ≡ Some at
  found_past None at h = absurd (cc (h))
  found_past (Some p) at h =
      elim (cases_Bool (nat_lt p count)) [
        | inl few ↦ let none : None ≡ Some at = sym (ap (λ b. cond b None (Some p)) few) ∙ h in absurd (cc (none))
        | inr many ↦ sym (ap (λ b. cond b None (Some p)) many) ∙ h
      ]

  none_past : (o : Option ℕ) → ((p : ℕ) → o ≡ Some p → count ≤ p) → past count o ≡ None → None ≡ o
  none_past None above h = refl
  none_past (Some p) above h =
      let many = above p refl in
      let other : nat_lt p count ≡ false = grind (arith, nat_tests) in
      let there : Some p ≡ None = sym (ap (λ b. cond b None (Some p)) other) ∙ h in
      absurd (cc (there))

  in_front : (t : CellName → Bool) (k base : ℕ) (xs : List CellName) → base + k ≡ count → past count (position_from t base xs) ≡ None → position_from t base (take k xs) ≡ position_from t base xs
  in_front t zero base xs e h = none_past (position_from t base xs) (λ p s. let a = position_above t base xs p s in omega arith) h
  in_front t (suc k) base [] e h = refl
  in_front t (suc k) base (x ∷ xs) e h =
      elim (cases_Bool (t x)) [
        | inl same ↦ ap (λ b. cond b (Some base) (position_from t (base + 1) (take k xs))) same ∙ sym (ap (λ b. cond b (Some base) (position_from t (base + 1) xs)) same)
        | inr other ↦
            ap (λ b. cond b (Some base) (position_from t (base + 1) (take k xs))) other
            ∙ in_front t k (base + 1) xs (omega (arith, e)) (ap (past count) (sym (ap (λ b. cond b (Some base) (position_from t (base + 1) xs)) other)) ∙ h)
            ∙ sym (ap (λ b. cond b (Some base) (position_from t (base + 1) xs)) other)
      ]

  -- where no place lies past those of the names that live in place, the first is among these
  pub found_in_place : (c : CellName) (names : List CellName) → past count (position_from (name_eq c) 0 names) ≡ None → position_from (name_eq c) 0 (take count names) ≡ position_from (name_eq c) 0 names
  found_in_place c names h = let all : 0 + count ≡ count = omega arith in in_front (name_eq c) count 0 names all h
