-- The first place in a list at which a test passes, as the list grows.
use Rattle.std.proofs.Common.{◌≡◌, ℕ, ◌+◌, Bool, true, false, cond, List, [], ◌∷◌, ◌++◌, length, Some, None, refl, ap, ◌∙◌, arith}
use Rattle.std.specs.List.{position_from}
use Rattle.std.specs.Option.{option_or}

-- the first place in a list with one more at its end
pub position_more : {X : Type 0} (t : X → Bool) (base : ℕ) (xs : List X) (x : X) → position_from t base (xs ++ x ∷ []) ≡ option_or (position_from t base xs) (cond (t x) (Some (base + length xs)) None)
position_more t base [] x = let e : base ≡ base + 0 = omega arith in ap (λ (k : ℕ). cond (t x) (Some k) None) e
position_more t base (y ∷ xs) x =
    let e : (base + 1) + length xs ≡ base + length (y ∷ xs) = omega arith in
    elim (t y) as (λ b. cond b (Some base) (position_from t (base + 1) (xs ++ x ∷ [])) ≡ option_or (cond b (Some base) (position_from t (base + 1) xs)) (cond (t x) (Some (base + length (y ∷ xs))) None)) [
      | true ↦ refl
      | false ↦ position_more t (base + 1) xs x ∙ ap (λ (k : ℕ). option_or (position_from t (base + 1) xs) (cond (t x) (Some k) None)) e
    ]
