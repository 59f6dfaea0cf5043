-- Filters of ranges of numbers; a new member among blocks of members.
use Rattle.std.proofs.Common.{◌≡◌, refl, sym, ◌∙◌, ap, ℕ, zero, suc, ◌+◌, ◌<◌, ◌≤◌, Bool, true, false, cond, not, List, [], ◌∷◌, ◌++◌, Some, map, inl, inr, arith, append_assoc, append-nil}
use Rattle.std.specs.Prelude.{filter, ◌==◌}
use Rattle.std.specs.List.{flat_map, list_all, range_with_len}
use Rattle.std.proofs.lemmas.Bool.{and_from, and_parts, cases_Bool, cases_order, eq-eqb, ne_eqb}
use Rattle.std.proofs.lemmas.List.Elements.{filter-append}
use Rattle.dbtg_schema.specs.Lookups.{first}
use Rattle.dbtg_unit.proofs.Lists.WithANewMember.{filter_all, filter_none}

-- RANGES

-- if no number from a on passes, no element made of one passes
pub none_in_range : {X : Type 0} (p : X → Bool) (f : ℕ → X) (a n : ℕ) → ((j : ℕ) → a ≤ j → j < a + n → p (f j) ≡ false) → filter p (map f (range_with_len a n)) ≡ []
none_in_range p f a zero h = refl
none_in_range p f a (suc n) h =
    ap (λ b. cond b (f a ∷ filter p (map f (range_with_len (a + 1) n))) (filter p (map f (range_with_len (a + 1) n)))) (h a (omega arith) (omega arith))
    ∙ none_in_range p f (a + 1) n (λ j above below. h j (omega (arith, above)) (omega (arith, below)))

-- the first number that passes
pub first_in_range : (p : ℕ → Bool) (a n j : ℕ) → a ≤ j → j < a + n → ((i : ℕ) → a ≤ i → i < j → p i ≡ false) → p j ≡ true → first (filter p (range_with_len a n)) ≡ Some j
first_in_range p a zero j above below none here = absurd (omega (arith, above, below))
first_in_range p a (suc n) j above below none here =
    elim (cases_order a j) [
      | inl e ↦
          let passes : p a ≡ true = ap p e ∙ here in
          ap (λ b. first (cond b (a ∷ filter p (range_with_len (a + 1) n)) (filter p (range_with_len (a + 1) n)))) passes ∙ ap Some e
      | inr (inl l) ↦
          ap (λ b. first (cond b (a ∷ filter p (range_with_len (a + 1) n)) (filter p (range_with_len (a + 1) n)))) (none a (omega arith) l)
          ∙ first_in_range p (a + 1) n j (omega (arith, l)) (omega (arith, below)) (λ i over under. none i (omega (arith, over)) under) here
      | inr (inr l) ↦ absurd (omega (arith, above, l))
    ]

-- what holds of each that a test keeps
pub all_kept_in_range : {X : Type 0} (p t : X → Bool) (f : ℕ → X) (a n : ℕ) → ((j : ℕ) → a ≤ j → j < a + n → t (f j) ≡ true → p (f j) ≡ true) → list_all p (filter t (map f (range_with_len a n))) ≡ true
all_kept_in_range p t f a zero h = refl
all_kept_in_range p t f a (suc n) h =
    let others = filter t (map f (range_with_len (a + 1) n)) in
    let rest = all_kept_in_range p t f (a + 1) n (λ j above below passes. h j (omega (arith, above)) (omega (arith, below)) passes) in
    elim (cases_Bool (t (f a))) [
      | inl e ↦ ap (λ b. list_all p (cond b (f a ∷ others) others)) e ∙ and_from _ _ (h a (omega arith) (omega arith) e) rest
      | inr e ↦ ap (λ b. list_all p (cond b (f a ∷ others) others)) e ∙ rest
    ]

-- BLOCKS

-- blocks of members, one for each number, and a new member m for the block of number `own`: what comes before it are the
-- blocks up to that number
module _ {X : Type 0} (before : X → Bool) (m : X) (block grown : ℕ → List X) (own : ℕ)
    (low : (d : ℕ) → d ≤ own → list_all before (block d) ≡ true)
    (high : (d : ℕ) → own < d → list_all (λ x. not (before x)) (block d) ≡ true)
    (is_grown : (d : ℕ) → grown d ≡ block d ++ cond (own == d) (m ∷ []) []) where
  -- after its own block nothing comes before it, and everything stays as it is
  none_before : (a n : ℕ) → own < a → filter before (flat_map block (range_with_len a n)) ≡ []
  none_before a zero h = refl
  none_before a (suc n) h =
      filter-append before (block a) (flat_map block (range_with_len (a + 1) n))
      ∙ (λ i. filter_none before (block a) (high a h) i ++ none_before (a + 1) n (omega (arith, h)) i)

  all_behind : (a n : ℕ) → own < a → filter (λ x. not (before x)) (flat_map block (range_with_len a n)) ≡ flat_map grown (range_with_len a n)
  all_behind a zero h = refl
  all_behind a (suc n) h =
      filter-append (λ x. not (before x)) (block a) (flat_map block (range_with_len (a + 1) n))
      ∙ (λ i. (filter_all (λ x. not (before x)) (block a) (high a h) ∙ sym (same a h)) i ++ all_behind (a + 1) n (omega (arith, h)) i) where
        same : (a : ℕ) → own < a → grown a ≡ block a
        same a h = is_grown a ∙ ap (λ b. block a ++ cond b (m ∷ []) []) (ne_eqb own a (λ e. omega (arith, e, h))) ∙ append-nil (block a)

  all_low : (a : ℕ) → a ≤ own → filter (λ x. not (before x)) (block a) ≡ []
  all_low a h = filter_none (λ x. not (before x)) (block a) (doubled (block a) (low a h)) where
    doubled : (xs : List X) → list_all before xs ≡ true → list_all (λ x. not (not (before x))) xs ≡ true
    doubled [] g = refl
    doubled (x ∷ xs) g = let gs = and_parts _ _ g in and_from _ _ (ap (λ b. not (not b)) gs.0) (doubled xs gs.1)

  -- it joins the end of its own block
  pub joins_its_block : (a n : ℕ) → a ≤ own → own < a + n
      → filter before (flat_map block (range_with_len a n)) ++ m ∷ filter (λ x. not (before x)) (flat_map block (range_with_len a n)) ≡ flat_map grown (range_with_len a n)
  joins_its_block a zero above below = absurd (omega (arith, above, below))
  joins_its_block a (suc n) above below =
      let others = flat_map block (range_with_len (a + 1) n) in
      (λ i. filter-append before (block a) others i ++ m ∷ filter-append (λ x. not (before x)) (block a) others i)
      ∙ (λ i. (filter_all before (block a) (low a above) i ++ filter before others) ++ m ∷ (all_low a above i ++ filter (λ x. not (before x)) others))
      ∙ elim (cases_order a own) [
        | inl e ↦
            let next : own < a + 1 = omega (arith, e) in
            (λ i. (block a ++ none_before (a + 1) n next i) ++ m ∷ all_behind (a + 1) n next i)
            ∙ (λ i. append-nil (block a) i ++ m ∷ flat_map grown (range_with_len (a + 1) n))
            ∙ sym (append_assoc (block a) (m ∷ []) (flat_map grown (range_with_len (a + 1) n)))
            ∙ (λ i. sym (is_grown a ∙ ap (λ b. block a ++ cond b (m ∷ []) []) (eq-eqb own a (sym e))) i ++ flat_map grown (range_with_len (a + 1) n))
        | inr (inl l) ↦
            append_assoc (block a) (filter before others) (m ∷ filter (λ x. not (before x)) others)
            ∙ (λ i. sym (is_grown a ∙ ap (λ b. block a ++ cond b (m ∷ []) []) (ne_eqb own a (λ e. omega (arith, e, l))) ∙ append-nil (block a)) i
            ++ joins_its_block (a + 1) n (omega (arith, l)) (omega (arith, below)) i)
        | inr (inr l) ↦ absurd (omega (arith, above, l))
      ]
