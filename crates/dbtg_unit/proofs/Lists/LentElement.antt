-- An element of a list that is lent to be written.
use Rattle.std.proofs.Common.{◌≡◌, refl, sym, ◌∙◌, ap, ℕ, zero, suc, ◌<◌, List, [], ◌∷◌, Option, Some, None, length, MutBor, arith}
use Rattle.std.specs.Prelude.{slice_get, slice_index_or, IsSome, IfSome}
use Rattle.std.specs.Option.{option_copied_mut}
use Rattle.std.proofs.lemmas.Bool.{false≢true}
use Rattle.std.proofs.lemmas.Option.{slice_get-get_or}

beyond : {X : Type 0} (xs : List X) (i : ℕ) → (i < length xs → ⊥) → slice_get xs i ≡ None
beyond [] i h = refl
beyond (x ∷ xs) zero h = absurd (h (omega arith))
beyond (x ∷ xs) (suc i) h = beyond xs i (λ (k : i < length xs). h (omega arith))

-- what is lent is the element of the list, and nothing where there is none
pub lent_item : {X : Type 0} (r : Option (MutBor X)) (xs : List X) (i : ℕ) → (IsSome r → i < length xs) → (i < length xs → IsSome r) → IfSome r (λ x. x.now ≡ slice_index_or xs i x.now) → option_copied_mut r ≡ slice_get xs i
lent_item None xs i in_range some value = sym (beyond xs i (λ (k : i < length xs). false≢true (some k)))
lent_item (Some x) xs i in_range some value = ap Some value ∙ sym (slice_get-get_or xs i x.now (in_range refl))
