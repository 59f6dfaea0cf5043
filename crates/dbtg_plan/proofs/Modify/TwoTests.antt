-- Lists of what passes two tests, one after the other.
use Rattle.std.proofs.Common.{◌≡◌, refl, ◌∙◌, ap, Bool, true, false, cond, ◌&&◌, ◌||◌, List, [], ◌∷◌, ◌++◌, Some, None, map}
use Rattle.std.specs.Prelude.{filter}
use Rattle.std.specs.List.{list_any, flat_map}
use Rattle.dbtg_schema.specs.Lookups.{first_cause}

-- what is made of each that passes
pub flat_map_if : {X Y : Type 0} (f : X → List Y) (p : X → Bool) (xs : List X) → flat_map (λ x. cond (p x) (f x) []) xs ≡ flat_map f (filter p xs)
flat_map_if f p [] = refl
flat_map_if f p (x ∷ xs) =
    ap (λ ys. cond (p x) (f x) [] ++ ys) (flat_map_if f p xs)
    ∙ elim (p x) as (λ b. (cond b (f x) [] ++ flat_map f (filter p xs)) ≡ flat_map f (cond b (x ∷ filter p xs) (filter p xs))) [ true ↦ refl | false ↦ refl ]

-- whether one that passes one test passes another
pub any_filter : {X : Type 0} (f p : X → Bool) (xs : List X) → list_any f (filter p xs) ≡ list_any (λ x. p x && f x) xs
any_filter f p [] = refl
any_filter f p (x ∷ xs) =
    elim (p x) as (λ b. list_any f (cond b (x ∷ filter p xs) (filter p xs)) ≡ ((b && f x) || list_any (λ x. p x && f x) xs)) [
      | true ↦ ap (λ b. f x || b) (any_filter f p xs)
      | false ↦ any_filter f p xs
    ]

-- checks with one cause
pub first_cause_any : {X C : Type 0} (f : X → Bool) (cause : C) (xs : List X) → first_cause (map (λ x. (f x, cause)) xs) ≡ cond (list_any f xs) (Some cause) None
first_cause_any f cause [] = refl
first_cause_any f cause (x ∷ xs) =
    elim (f x) as (λ b. cond b (Some cause) (first_cause (map (λ x. (f x, cause)) xs)) ≡ cond (b || list_any f xs) (Some cause) None) [
      | true ↦ refl
      | false ↦ first_cause_any f cause xs
    ]
