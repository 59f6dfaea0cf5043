-- Tests and functions that agree on the elements of a list, and tests that all of them pass or none.
use Rattle.std.proofs.Common.{◌≡◌, refl, Bool, List, [], ◌∷◌, ◌++◌, ◌||◌, inl, inr, map, cond, false, ◌∙◌, true}
use Rattle.std.specs.List.{list_any, flat_map, list_all}
use Rattle.std.specs.Prelude.{filter}
use Rattle.std.proofs.lemmas.Bool.{cond-false, and_from}
use Rattle.dbtg_unit.proofs.Lists.Membership.{In}

pub any_agrees : {X : Type 0} (p q : X → Bool) (xs : List X) → ((x : X) → In x xs → p x ≡ q x) → list_any p xs ≡ list_any q xs
any_agrees p q [] h = refl
any_agrees p q (x ∷ xs) h = λ i. h x (inl refl) i || any_agrees p q xs (λ y j. h y (inr j)) i

pub flat_map_agrees : {X Y : Type 0} (f g : X → List Y) (xs : List X) → ((x : X) → In x xs → f x ≡ g x) → flat_map f xs ≡ flat_map g xs
flat_map_agrees f g [] h = refl
flat_map_agrees f g (x ∷ xs) h = λ i. h x (inl refl) i ++ flat_map_agrees f g xs (λ y j. h y (inr j)) i

pub map_agrees_on_list : {X Y : Type 0} (f g : X → Y) (xs : List X) → ((x : X) → In x xs → f x ≡ g x) → map f xs ≡ map g xs
map_agrees_on_list f g [] h = refl
map_agrees_on_list f g (x ∷ xs) h = λ i. h x (inl refl) i ∷ map_agrees_on_list f g xs (λ y j. h y (inr j)) i

-- tests that agree keep the same
pub filter_agrees_on_list : {X : Type 0} (p q : X → Bool) (xs : List X) → ((x : X) → In x xs → p x ≡ q x) → filter p xs ≡ filter q xs
filter_agrees_on_list p q [] h = refl
filter_agrees_on_list p q (x ∷ xs) h = λ i. cond (h x (inl refl) i) (x ∷ filter_agrees_on_list p q xs (λ y j. h y (inr j)) i) (filter_agrees_on_list p q xs (λ y j. h y (inr j)) i)

-- functions that agree on all make the same of a list
pub map_same : {X Y : Type 0} (f g : X → Y) (xs : List X) → ((x : X) → f x ≡ g x) → map f xs ≡ map g xs
map_same f g [] h = refl
map_same f g (x ∷ xs) h = λ i. h x i ∷ map_same f g xs h i

-- a test that no element passes keeps none
pub none_pass : {X : Type 0} (p : X → Bool) (xs : List X) → ((x : X) → In x xs → p x ≡ false) → filter p xs ≡ []
none_pass p [] h = refl
none_pass p (x ∷ xs) h = cond-false (p x) (x ∷ filter p xs) (filter p xs) (h x (inl refl)) ∙ none_pass p xs (λ y i. h y (inr i))

-- if each element passes a test, all do
pub all_in : {X : Type 0} (p : X → Bool) (xs : List X) → ((x : X) → In x xs → p x ≡ true) → list_all p xs ≡ true
all_in p [] h = refl
all_in p (x ∷ xs) h = and_from _ _ (h x (inl refl)) (all_in p xs (λ y j. h y (inr j)))
