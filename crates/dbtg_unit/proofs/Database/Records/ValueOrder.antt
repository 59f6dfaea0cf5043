-- Values and sort keys are ordered.
use Rattle.std.proofs.Common.{◌≡◌, refl, sym, ◌∙◌, ap, subst, ℕ, Bool, true, false, ◌&&◌, List, [], ◌∷◌, Option, Some, None, arith, eqb, inl, inr, ⊎_elim}
use Rattle.std.proofs.lemmas.Bool.{and_parts, and_from, or_cases, or_parts, or_left, or_right, cases_Bool, false≢true, false_from_ne_true, ltb-true, ltb-false, lt-ltb, eqb-true, eqb-false, eq-eqb}
use Rattle.dbtg_cells.specs.declared.key.Value.{Value}
use Rattle.dbtg_cells.specs.declared.key.Value.TheVariants.{Num, Text}
use Rattle.dbtg_cells.specs.Keys.{bytes_below, bytes_same, value_below, value_eq}
use Rattle.dbtg_cells.proofs.Public.{nothing, same_value}
use Rattle.dbtg_unit.specs.Database.Statements.Effect.{sort_key_below, option_value_eq}
use Rattle.dbtg_unit.specs.Database.Laws.Placing.{comparable}

pub bytes_lt_trans : (a b c : List ℕ) → bytes_below a b ≡ true → bytes_below b c ≡ true → bytes_below a c ≡ true
bytes_lt_trans [] [] [] h g = h
bytes_lt_trans [] [] (z ∷ c) h g = refl
bytes_lt_trans [] (y ∷ b) [] h g = g
bytes_lt_trans [] (y ∷ b) (z ∷ c) h g = refl
bytes_lt_trans (x ∷ a) [] c h g = nothing h
bytes_lt_trans (x ∷ a) (y ∷ b) [] h g = g
bytes_lt_trans (x ∷ a) (y ∷ b) (z ∷ c) h g =
    ⊎_elim
    (λ l. ⊎_elim
    (λ m. let low = ltb-true x y l in let high = ltb-true y z m in or_left _ _ (lt-ltb x z (omega arith)))
    (λ m. let low = ltb-true x y l in let same = eqb-true y z (and_parts _ _ m).0 in or_left _ _ (lt-ltb x z (omega arith)))
    (or_cases _ _ g))
    (λ l. let same = eqb-true x y (and_parts _ _ l).0 in ⊎_elim
    (λ m. let high = ltb-true y z m in or_left _ _ (lt-ltb x z (omega arith)))
    (λ m. let same' = eqb-true y z (and_parts _ _ m).0 in or_right _ _ (and_from _ _ (eq-eqb x z (same ∙ same')) (bytes_lt_trans a b c (and_parts _ _ l).1 (and_parts _ _ m).1)))
    (or_cases _ _ g))
    (or_cases _ _ h)

bytes_lt_irrefl : (a : List ℕ) → bytes_below a a ≡ true → ⊥
bytes_lt_irrefl [] h = false≢true h
bytes_lt_irrefl (x ∷ a) h = ⊎_elim (λ l. let low = ltb-true x x l in absurd (omega arith)) (λ l. bytes_lt_irrefl a (and_parts _ _ l).1) (or_cases _ _ h)

-- if two texts differ, one comes before the other
bytes_lt_either : (a b : List ℕ) → bytes_same a b ≡ false → bytes_below a b ≡ false → bytes_below b a ≡ true
bytes_lt_either [] [] h g = sym h
bytes_lt_either [] (y ∷ b) h g = sym g
bytes_lt_either (x ∷ a) [] h g = refl
bytes_lt_either (x ∷ a) (y ∷ b) h g =
    let gs = or_parts _ _ g in
    let low = ltb-false x y gs.0 in
    elim (cases_Bool (eqb x y)) [
      | inl e ↦
          let same = eqb-true x y e in
          or_right _ _ (and_from _ _ (eq-eqb y x (sym same)) (bytes_lt_either a b (subst (λ t. (t && bytes_same a b) ≡ false) e h) (subst (λ t. (t && bytes_below a b) ≡ false) e gs.1)))
      | inr e ↦ let apart = eqb-false x y e in or_left _ _ (lt-ltb y x (omega arith))
    ]

pub value_lt_trans : (a b c : Value) → value_below a b ≡ true → value_below b c ≡ true → value_below a c ≡ true
value_lt_trans (Num a) (Num b) (Num c) h g = let low = ltb-true a b h in let high = ltb-true b c g in lt-ltb a c (omega arith)
value_lt_trans (Text a) (Text b) (Text c) h g = bytes_lt_trans a b c h g
value_lt_trans (Num a) (Num b) (Text c) h g = nothing g
value_lt_trans (Num a) (Text b) c h g = nothing h
value_lt_trans (Text a) (Text b) (Num c) h g = nothing g
value_lt_trans (Text a) (Num b) c h g = nothing h

value_lt_irrefl : (a : Value) → value_below a a ≡ true → ⊥
value_lt_irrefl (Num a) h = let low = ltb-true a a h in absurd (omega arith)
value_lt_irrefl (Text a) h = bytes_lt_irrefl a h

-- if two values of one kind differ, one comes before the other
pub value_lt_either : (a b : Value) → comparable (Some a) (Some b) ≡ true → value_eq a b ≡ false → value_below a b ≡ false → value_below b a ≡ true
value_lt_either (Num a) (Num b) k h g = let apart = eqb-false a b h in let low = ltb-false a b g in lt-ltb b a (omega arith)
value_lt_either (Text a) (Text b) k h g = bytes_lt_either a b h g
value_lt_either (Num a) (Text b) k h g = nothing k
value_lt_either (Text a) (Num b) k h g = nothing k

-- the same values come before the same, and neither before the other
pub same_option_value : (a b : Option Value) → option_value_eq a b ≡ true → a ≡ b
same_option_value None b h = nothing h
same_option_value (Some a) None h = nothing h
same_option_value (Some a) (Some b) h = ap Some (same_value a b h)

-- SORT KEYS

pub key_below_trans : (up : Bool) (a b c : Option Value) → sort_key_below up a b ≡ true → sort_key_below up b c ≡ true → sort_key_below up a c ≡ true
key_below_trans true (Some a) (Some b) (Some c) h g = value_lt_trans a b c h g
key_below_trans false (Some a) (Some b) (Some c) h g = value_lt_trans c b a g h
key_below_trans true None b c h g = nothing h
key_below_trans false a None c h g = nothing h
key_below_trans true (Some a) None c h g = nothing h
key_below_trans false None (Some b) c h g = nothing h
key_below_trans true (Some a) (Some b) None h g = nothing g
key_below_trans false (Some a) (Some b) None h g = nothing g

pub key_below_irrefl : (up : Bool) (a : Option Value) → sort_key_below up a a ≡ true → ⊥
key_below_irrefl true None h = false≢true h
key_below_irrefl false None h = false≢true h
key_below_irrefl true (Some a) h = value_lt_irrefl a h
key_below_irrefl false (Some a) h = value_lt_irrefl a h

pub key_below_asym : (up : Bool) (a b : Option Value) → sort_key_below up a b ≡ true → sort_key_below up b a ≡ false
key_below_asym up a b h = false_from_ne_true _ (λ g. key_below_irrefl up a (key_below_trans up a b a h g))

comparable_sym : (a b : Value) → comparable (Some a) (Some b) ≡ true → comparable (Some b) (Some a) ≡ true
comparable_sym (Num a) (Num b) h = refl
comparable_sym (Text a) (Text b) h = refl
comparable_sym (Num a) (Text b) h = h
comparable_sym (Text a) (Num b) h = h

pub key_below_either : (up : Bool) (a b : Option Value) → comparable a b ≡ true → option_value_eq a b ≡ false → sort_key_below up a b ≡ false → sort_key_below up b a ≡ true
key_below_either up None b k h g = nothing k
key_below_either up (Some a) None k h g = nothing (comparable_none a k) where
  comparable_none : (a : Value) → comparable (Some a) None ≡ true → false ≡ true
  comparable_none (Num a) h = h
  comparable_none (Text a) h = h
key_below_either true (Some a) (Some b) k h g = value_lt_either a b k h g
key_below_either false (Some a) (Some b) k h g = value_lt_either b a (comparable_sym a b k) (false_from_ne_true _ (λ e. false≢true (sym h ∙ value_eq_sym b a e))) g where
  value_eq_sym : (a b : Value) → value_eq a b ≡ true → value_eq b a ≡ true
  value_eq_sym a b e = subst (λ (c : Value). value_eq c a ≡ true) (same_value a b e) (value_eq_refl a) where
    bytes_same_refl : (a : List ℕ) → bytes_same a a ≡ true
    bytes_same_refl [] = refl
    bytes_same_refl (x ∷ a) = and_from _ _ (eq-eqb x x refl) (bytes_same_refl a)

    value_eq_refl : (a : Value) → value_eq a a ≡ true
    value_eq_refl (Num a) = eq-eqb a a refl
    value_eq_refl (Text a) = bytes_same_refl a
