-- Placing and mapping.
use Rattle.std.proofs.Common.{◌≡◌, refl, sym, ◌∙◌, ap, Bool, true, false, cond, not, ◌||◌, inl, inr, List, [], ◌∷◌, ◌++◌, map}
use Rattle.std.specs.Prelude.{filter}
use Rattle.std.specs.List.{list_all}
use Rattle.std.proofs.lemmas.Bool.{and_parts, cases_Bool, false≢true}
use Rattle.std.proofs.lemmas.List.{map-append}
use Rattle.dbtg_cells.specs.Placed.{Spot, Front, Back, After, Before, Among, placed, after, before}
use Rattle.dbtg_unit.specs.Database.State.Legal.{pairwise}

-- a filter by what a map makes is a filter before the map
pub map_filter : {X Y : Type 0} (f : X → Y) (p : Y → Bool) (xs : List X) → map f (filter (λ x. p (f x)) xs) ≡ filter p (map f xs)
map_filter f p [] = refl
map_filter f p (x ∷ xs) =
    elim (p (f x)) as (λ b. map f (cond b (x ∷ filter (λ y. p (f y)) xs) (filter (λ y. p (f y)) xs)) ≡ cond b (f x ∷ filter p (map f xs)) (filter p (map f xs))) [
      | true ↦ ap (λ zs. f x ∷ zs) (map_filter f p xs)
      | false ↦ map_filter f p xs
    ]

-- a spot among what a map makes, as a spot before the map
abbrev pub spot_before_map : {X Y : Type 0} → (X → Y) → Spot Y → Spot X
spot_before_map f Front = Front
spot_before_map f Back = Back
spot_before_map f (After is) = After (λ x. is (f x))
spot_before_map f (Before is) = Before (λ x. is (f x))
spot_before_map f (Among comes_before) = Among (λ x. comes_before (f x))

map_after : {X Y : Type 0} (f : X → Y) (is : Y → Bool) (m : X) (xs : List X) → map f (after (λ x. is (f x)) m xs) ≡ after is (f m) (map f xs)
map_after f is m [] = refl
map_after f is m (x ∷ xs) =
    elim (is (f x)) as (λ b. map f (cond b (x ∷ (m ∷ xs)) (x ∷ after (λ y. is (f y)) m xs)) ≡ cond b (f x ∷ (f m ∷ map f xs)) (f x ∷ after is (f m) (map f xs))) [
      | true ↦ refl
      | false ↦ ap (λ zs. f x ∷ zs) (map_after f is m xs)
    ]

map_before : {X Y : Type 0} (f : X → Y) (is : Y → Bool) (m : X) (xs : List X) → map f (before (λ x. is (f x)) m xs) ≡ before is (f m) (map f xs)
map_before f is m [] = refl
map_before f is m (x ∷ xs) =
    elim (is (f x)) as (λ b. map f (cond b (m ∷ (x ∷ xs)) (x ∷ before (λ y. is (f y)) m xs)) ≡ cond b (f m ∷ (f x ∷ map f xs)) (f x ∷ before is (f m) (map f xs))) [
      | true ↦ refl
      | false ↦ ap (λ zs. f x ∷ zs) (map_before f is m xs)
    ]

-- placing and then mapping is mapping and then placing
pub map_placed : {X Y : Type 0} (f : X → Y) (spot : Spot Y) (m : X) (xs : List X) → map f (placed (spot_before_map f spot) m xs) ≡ placed spot (f m) (map f xs)
map_placed f Front m xs = refl
map_placed f Back m xs = map-append f xs (m ∷ [])
map_placed f (After is) m xs = map_after f is m xs
map_placed f (Before is) m xs = map_before f is m xs
map_placed f (Among c) m xs =
    map-append f (filter (λ x. c (f x)) xs) (m ∷ filter (λ x. not (c (f x))) xs)
    ∙ ap (λ zs. zs ++ f m ∷ map f (filter (λ x. not (c (f x))) xs)) (map_filter f c xs)
    ∙ ap (λ zs. filter c (map f xs) ++ f m ∷ zs) (map_filter f (λ y. not (c y)) xs)

-- where those that come before stand before all others, a new one goes before the first that does not
pub before_parted : {X : Type 0} (c : X → Bool) (m : X) (xs : List X) → pairwise (λ x y. c x || not (c y)) xs ≡ true → before (λ x. not (c x)) m xs ≡ filter c xs ++ m ∷ filter (λ x. not (c x)) xs
before_parted c m [] h = refl
before_parted c m (x ∷ xs) h =
    let hs = and_parts _ _ h in
    elim (cases_Bool (c x)) [
      | inl e ↦
          ap (λ b. cond (not b) (m ∷ (x ∷ xs)) (x ∷ before (λ y. not (c y)) m xs)) e
          ∙ ap (λ zs. x ∷ zs) (before_parted c m xs hs.1)
          ∙ ap (λ b. cond b (x ∷ filter c xs) (filter c xs) ++ m ∷ cond (not b) (x ∷ filter (λ y. not (c y)) xs) (filter (λ y. not (c y)) xs)) (sym e)
      | inr e ↦
          let none : list_all (λ y. not (c y)) xs ≡ true = sym (ap (λ b. list_all (λ y. b || not (c y)) xs) e) ∙ hs.0 in
          ap (λ b. cond (not b) (m ∷ (x ∷ xs)) (x ∷ before (λ y. not (c y)) m xs)) e
          ∙ (λ i. m ∷ (x ∷ sym (all_pass (λ y. not (c y)) xs none) i))
          ∙ (λ i. sym (none_pass c xs none) i ++ m ∷ (x ∷ filter (λ y. not (c y)) xs))
          ∙ ap (λ b. cond b (x ∷ filter c xs) (filter c xs) ++ m ∷ cond (not b) (x ∷ filter (λ y. not (c y)) xs) (filter (λ y. not (c y)) xs)) (sym e)
    ] where
      all_pass : {X : Type 0} (p : X → Bool) (xs : List X) → list_all p xs ≡ true → filter p xs ≡ xs
      all_pass p [] h = refl
      all_pass p (x ∷ xs) h = let hs = and_parts _ _ h in ap (λ b. cond b (x ∷ filter p xs) (filter p xs)) hs.0 ∙ ap (λ zs. x ∷ zs) (all_pass p xs hs.1)

      none_pass : {X : Type 0} (c : X → Bool) (xs : List X) → list_all (λ y. not (c y)) xs ≡ true → filter c xs ≡ []
      none_pass c [] h = refl
      none_pass c (x ∷ xs) h =
          let hs = and_parts _ _ h in
          elim (cases_Bool (c x)) [
            | inl e ↦ absurd (false≢true (sym (ap not e) ∙ hs.0))
            | inr e ↦ ap (λ b. cond b (x ∷ filter c xs) (filter c xs)) e ∙ none_pass c xs hs.1
          ]
