-- The parts of a text.
use Rattle.std.proofs.Common.{◌≡◌, ℕ, zero, suc, ◌<◌, Bool, true, false, eqb, List, [], ◌∷◌, length, get_or, take, drop, refl, sym, ap, ◌∙◌, arith}
use Rattle.std.proofs.lemmas.Bool.{eq-eqb, eqb-true, eqb-false, ne_eqb}
use Rattle.dbtg_page.specs.Changes.{joined, onto_part, parts}

module _ (mark : ℕ) where
  starts : (b : ℕ) (bs : List ℕ) → (b ≡ mark → ⊥) → parts mark (b ∷ bs) ≡ onto_part b (parts mark bs)
  unfolding parts
  starts b bs h = rw (ne_eqb b mark h) refl

  ends : (b : ℕ) (bs : List ℕ) → b ≡ mark → parts mark (b ∷ bs) ≡ [] ∷ parts mark bs
  unfolding parts
  ends b bs e = rw (eq-eqb b mark e) refl

  none_is : parts mark [] ≡ [] ∷ []
  unfolding parts
  none_is = refl

  -- without a mark a text is one part
  pub whole_is : (t : List ℕ) → ((k : ℕ) → k < length t → get_or t k 0 ≡ mark → ⊥) → parts mark t ≡ t ∷ []
  whole_is [] each = none_is
  whole_is (b ∷ bs) each = starts b bs (each 0 (omega arith)) ∙ ap (onto_part b) (whole_is bs (λ k h. each (suc k) (omega arith)))

  -- what stands before the first mark is a part
  pub part_is : (n : ℕ) (t : List ℕ) → n < length t → ((k : ℕ) → k < n → get_or t k 0 ≡ mark → ⊥) → get_or t n 0 ≡ mark → parts mark t
      ≡ take n t ∷ parts mark (drop 1 (drop n t))
  part_is n [] lt each is = absurd (omega arith)
  part_is zero (b ∷ bs) lt each is = ends b bs is
  part_is (suc n) (b ∷ bs) lt each is = starts b bs (each 0 (omega arith)) ∙ ap (onto_part b) (part_is n bs (omega arith) (λ k h. each (suc k)
      (omega arith)) is)

  -- ---- joined again

  some_onto : (b : ℕ) (ps : List (List ℕ)) → 0 < length (onto_part b ps)
  some_onto b [] = omega arith
  some_onto b (p ∷ ps) = omega arith

  some_parts : (t : List ℕ) → 0 < length (parts mark t)
  some_parts [] = let e = ap length none_is in omega (arith, e)
  some_parts (b ∷ bs) = by (eqb b mark) refl
    where
      by : (k : Bool) → eqb b mark ≡ k → 0 < length (parts mark (b ∷ bs))
      by true h = let e = ap length (ends b bs (eqb-true b mark h)) in omega (arith, e)
      by false h = let e = ap length (starts b bs (eqb-false b mark h)) in omega (arith, e, some_onto b (parts mark bs))

  join_onto : (b : ℕ) (ps : List (List ℕ)) → 0 < length ps → joined mark (onto_part b ps) ≡ b ∷ joined mark ps
  join_onto b [] some = absurd (omega arith)
  join_onto b (p ∷ []) some = refl
  join_onto b (p ∷ q ∷ ps) some = refl

  join_none : (ps : List (List ℕ)) → 0 < length ps → joined mark ([] ∷ ps) ≡ mark ∷ joined mark ps
  join_none [] some = absurd (omega arith)
  join_none (p ∷ ps) some = refl

  pub joined_parts : (t : List ℕ) → joined mark (parts mark t) ≡ t
  joined_parts [] = ap (joined mark) none_is
  joined_parts (b ∷ bs) = by (joined_parts bs) (eqb b mark) refl
    where
      by : joined mark (parts mark bs) ≡ bs → (k : Bool) → eqb b mark ≡ k → joined mark (parts mark (b ∷ bs)) ≡ b ∷ bs
      by again true h =
          let e = eqb-true b mark h in
          ap (joined mark) (ends b bs e) ∙ join_none (parts mark bs) (some_parts bs) ∙ ap (λ t. mark ∷ t) again ∙ ap (λ c. c ∷ bs) (sym e)
      by again false h = ap (joined mark) (starts b bs (eqb-false b mark h)) ∙ join_onto b (parts mark bs) (some_parts bs) ∙ ap (λ t. b ∷ t) again

  pub next_part : (n : ℕ) (text part tail : List ℕ) → n < length text → ((k : ℕ) → k < n → get_or text k 0 ≡ mark → ⊥) → get_or text n 0 ≡ mark → part
      ≡ take n text → tail ≡ drop n text
      → parts mark text ≡ part ∷ parts mark (drop 1 tail)
  next_part n text part tail lt each is p t = rw (p, t) (part_is n text lt each is)
