-- What holds of every entry of a list at its place: for the empty list, with one entry more, and for one of the entries.
use Rattle.std.proofs.Common.{◌≡◌, ℕ, zero, suc, Some, List, [], ◌∷◌, ◌++◌, length, refl, sym, ap, subst, ◌∙◌, inl, inr}
use Rattle.std.specs.Prelude.{◌⊎◌, slice_get}
use Rattle.std.proofs.lemmas.Option.{same_Some}
use Rattle.dbtg_schema.specs.Inside.Lookups.{EachAt}

-- an entry of a list with one more at its end
either_of : {X : Type 0} (xs : List X) (x : X) (k : ℕ) (y : X) → slice_get (xs ++ x ∷ []) k ≡ Some y → (slice_get xs k ≡ Some y) ⊎ ((k ≡ length xs) × (x ≡ y))
either_of [] x zero y is = inr (refl, same_Some x y is)
either_of [] x (suc k) y is = absurd cc
either_of (z ∷ xs) x zero y is = inl is
either_of (z ∷ xs) x (suc k) y is = elim (either_of xs x k y is) [ inl h ↦ inl h | inr w ↦ inr (ap suc w.0, w.1) ]

-- it holds for the empty list
pub none_at : {X : Type 0} (is : ℕ → X → Type 0) → EachAt is []
unfolding EachAt
none_at is i x at = absurd cc

-- it holds with one entry more
pub one_more_at : {X : Type 0} (is : ℕ → X → Type 0) (xs : List X) (x : X) (n : ℕ) → length xs ≡ n → EachAt is xs → is n x → EachAt is (xs ++ x ∷ [])
unfolding EachAt
one_more_at {X} is xs x n many each more i y at =
    elim (either_of xs x i y at) [
      | inl h ↦ each i y h
      | inr w ↦ subst (λ (z : X). is i z) w.1 (subst (λ (k : ℕ). is k x) (sym (w.0 ∙ many)) more)
    ]

-- it holds for one of them
pub one_at : {X : Type 0} (is : ℕ → X → Type 0) (xs : List X) (i : ℕ) (x : X) → EachAt is xs → slice_get xs i ≡ Some x → is i x
unfolding EachAt
one_at is xs i x each at = each i x at
