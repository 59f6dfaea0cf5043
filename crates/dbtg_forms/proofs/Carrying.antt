-- A renaming of vertices carries what is reached, spellings and roots along.
-- f names vertices of g by those of h; P tells the vertices for which it does.
use Rattle.std.proofs.Common.{◌≡◌, refl, sym, ◌∙◌, ap, subst, ℕ, zero, suc, ◌+◌, ◌<◌, arith, Bool, true, List, [], ◌∷◌, ◌++◌, length, map, inl, inr, Option, Some, None, slice_get, if◌then◌else◌}
use Rattle.std.specs.Prelude.{◌==◌, ◌&&◌, cond, not, flat_map, nat_le, option_map, unwrap_or}
use Rattle.std.specs.List.{list_all}
use Rattle.std.proofs.lemmas.Bool.{cases_Bool, eq-eqb, eqb-true, or_right}
use Rattle.std.proofs.lemmas.List.{length-map, map_push}
use Rattle.std.proofs.lemmas.Option.{slice_get-map}
use Rattle.dbtg_forms.specs.declared.vertex.Vertex.{Vertex}
use Rattle.dbtg_forms.specs.Graphs.{IsGraph, has, label_of, links_of}
use Rattle.dbtg_forms.specs.Forms.{component, grown, is_root, place, reached, reached_by, spelling, vertex_numbers}
use Rattle.dbtg_forms.proofs.Lists.{from_map, has_first, has_map, no_is_not_yes, not_behind}
use Rattle.dbtg_forms.proofs.Reaching.{added, added_from, by_least, by_settled, component_few, got_has}

module _ {X : Type 0} (f : ℕ → ℕ) where
  pub map_map_along : (F : ℕ → X) (G : ℕ → X) (xs : List ℕ) → ((z : ℕ) → has xs z ≡ true → F (f z) ≡ G z) → map F (map f xs) ≡ map G xs
  map_map_along F G [] same = refl
  map_map_along F G (x ∷ xs) same = λ i. same x (has_first x xs) i ∷ map_map_along F G xs (λ z h. same z (or_right (z == x) (has xs z) h)) i

  flat_along : (F G : ℕ → List X) (xs : List ℕ) → ((z : ℕ) → has xs z ≡ true → F (f z) ≡ G z) → flat_map F (map f xs) ≡ flat_map G xs
  flat_along F G [] same = refl
  flat_along F G (x ∷ xs) same = λ i. same x (has_first x xs) i ++ flat_along F G xs (λ z h. same z (or_right (z == x) (has xs z) h)) i

all_along : (f : ℕ → ℕ) (F G : ℕ → Bool) (xs : List ℕ) → ((z : ℕ) → has xs z ≡ true → F (f z) ≡ G z) → list_all F (map f xs) ≡ list_all G xs
all_along f F G [] same = refl
all_along f F G (x ∷ xs) same = λ i. same x (has_first x xs) i && all_along f F G xs (λ z h. same z (or_right (z == x) (has xs z) h)) i

-- the vertices of P go to vertices of h, one to one, with their labels and links
pub record Carries (g h : List Vertex) (f : ℕ → ℕ) (P : ℕ → Type 0) : Type 0 where
  pub goes : (y z : ℕ) → P y → has (links_of g y) z ≡ true → P z
  pub one : (y z : ℕ) → P y → P z → f y ≡ f z → y ≡ z
  pub labels : (y : ℕ) → P y → label_of h (f y) ≡ label_of g y
  pub links : (y : ℕ) → P y → links_of h (f y) ≡ map f (links_of g y)

module _ (g h : List Vertex) (f : ℕ → ℕ) (P : ℕ → Type 0) (c : Carries g h f P) where
  has_carried : (xs : List ℕ) (y : ℕ) → ((z : ℕ) → has xs z ≡ true → P z) → P y → has (map f xs) (f y) ≡ has xs y
  has_carried xs y all p =
      elim (cases_Bool (has xs y)) [
        | inl e ↦ has_map f xs y e ∙ sym e
        | inr e ↦ not_behind (f y) (map f xs) (λ m. let from = from_map f xs (f y) m in no_is_not_yes e (ap (has xs) (c.one y from.0 p (all from.0 from.1) from.2) ∙ from.1)) ∙ sym e
      ]

  same_carried : (y z : ℕ) → P y → P z → (f y == f z) ≡ (y == z)
  same_carried y z p q =
      elim (cases_Bool (y == z)) [
        | inl e ↦ eq-eqb (f y) (f z) (ap f (eqb-true y z e)) ∙ sym e
        | inr e ↦ elim (cases_Bool (f y == f z)) [
          | inl d ↦ absurd (no_is_not_yes e (eq-eqb y z (c.one y z p q (eqb-true (f y) (f z) d))))
          | inr d ↦ d ∙ sym e
        ]
      ]

  place_carried : (xs : List ℕ) (y : ℕ) → ((z : ℕ) → has xs z ≡ true → P z) → P y → place (map f xs) (f y) ≡ place xs y
  place_carried [] y all p = refl
  place_carried (x ∷ xs) y all p = λ i. cond (not (same_carried y x p (all x (has_first x xs)) i)) (1 + place_carried xs y (λ z m. all z (or_right (z == x) (has xs z) m)) p i) 0

  added_carried : (order : List ℕ) (x : ℕ) → ((z : ℕ) → has order z ≡ true → P z) → P x → added (map f order) (f x) ≡ map f (added order x)
  added_carried order x all p =
      elim (cases_Bool (has order x)) [
        | inl e ↦ ap (λ b. if b then map f order else map f order ++ f x ∷ []) (has_carried order x all p ∙ e) ∙ sym (ap (λ b. map f (if b then order else order ++ x ∷ [])) e)
        | inr e ↦ ap (λ b. if b then map f order else map f order ++ f x ∷ []) (has_carried order x all p ∙ e) ∙ sym (map_push f order x) ∙ sym (ap (λ b. map f (if b then order else order ++ x ∷ [])) e)
      ]

  reached_carried : (order xs : List ℕ) → ((z : ℕ) → has order z ≡ true → P z) → ((z : ℕ) → has xs z ≡ true → P z) → reached (map f order) (map f xs) ≡ map f (reached order xs)
  reached_carried order [] all more = refl
  reached_carried order (x ∷ xs) all more =
      ap (λ l. reached l (map f xs)) (added_carried order x all (more x (has_first x xs)))
      ∙ reached_carried (added order x) xs (λ z m. elim (added_from order x z m) [ inl e ↦ all z e | inr e ↦ subst P (sym e) (more x (has_first x xs)) ]) (λ z m. more z (or_right (z == x) (has xs z) m))

  opened_carried : (o : Option ℕ) → ((y : ℕ) → o ≡ Some y → P y) → unwrap_or (option_map (links_of h) (option_map f o)) [] ≡ map f (unwrap_or (option_map (links_of g) o) [])
  opened_carried None all = refl
  opened_carried (Some y) all = c.links y (all y refl)

  opened_in : (o : Option ℕ) (z : ℕ) → ((y : ℕ) → o ≡ Some y → P y) → has (unwrap_or (option_map (links_of g) o) []) z ≡ true → P z
  opened_in None z all m = absurd (cc)
  opened_in (Some y) z all m = c.goes y z (all y refl) m

  module _ (x : ℕ) (p : P x) where
    pub all_carried : (k z : ℕ) → has (reached_by (links_of g) x k) z ≡ true → P z
    all_carried = by_least (links_of g) x P p c.goes

    by_carried : (k : ℕ) → reached_by (links_of h) (f x) k ≡ map f (reached_by (links_of g) x k)
    by_carried zero = refl
    by_carried (suc k) =
        let before = reached_by (links_of g) x k in
        let own : (y : ℕ) → slice_get before k ≡ Some y → P y = λ y at. all_carried k y (got_has before k y at) in
        ap (λ l. grown (links_of h) l k) (by_carried k)
        ∙ ap (λ o. reached (map f before) (unwrap_or (option_map (links_of h) o) [])) (slice_get-map f before k)
        ∙ ap (λ l. reached (map f before) l) (opened_carried (slice_get before k) own)
        ∙ reached_carried before (unwrap_or (option_map (links_of g) (slice_get before k)) []) (all_carried k) (λ z m. opened_in (slice_get before k) z own m)

    module _ (is : IsGraph g) (are : IsGraph h) (within : x < length g) (there : f x < length h) where
      pub component_carried : component h (f x) ≡ map f (component g x)
      component_carried =
          let m = length g + length h in
          sym (by_settled (links_of h) (f x) (length h) m (component_few h are (f x) there) (omega arith))
          ∙ by_carried m
          ∙ ap (map f) (by_settled (links_of g) x (length g) m (component_few g is x within) (omega arith))

      vertex_carried : (y : ℕ) → has (component g x) y ≡ true → vertex_numbers h (map f (component g x)) (f y) ≡ vertex_numbers g (component g x) y
      vertex_carried y m =
          let q = all_carried (length g) y m in
          let own = component g x in
          let places : map (place (map f own)) (map f (links_of g y)) ≡ map (place own) (links_of g y) =
          map_map_along f (place (map f own)) (place own) (links_of g y) (λ z n. place_carried own z (all_carried (length g)) (c.goes y z q n)) in
          (λ i. c.labels y q i ∷ length (c.links y q i) ∷ map (place (map f own)) (c.links y q i))
          ∙ (λ i. label_of g y ∷ length-map (links_of g y) f i ∷ places i)

      pub spelling_carried : spelling h (f x) ≡ spelling g x
      spelling_carried =
          ap (λ l. flat_map (vertex_numbers h l) l) component_carried
          ∙ flat_along f (vertex_numbers h (map f (component g x))) (vertex_numbers g (component g x)) (component g x) vertex_carried

    degree_carried : (y : ℕ) → P y → length (links_of h (f y)) ≡ length (links_of g y)
    degree_carried y q = ap length (c.links y q) ∙ length-map (links_of g y) f

    pub root_carried : is_root h (f x) ≡ is_root g x
    root_carried =
        ap (λ l. list_all (λ y. nat_le (length (links_of h y)) (length (links_of h (f x)))) l) (c.links x p)
        ∙ all_along f (λ y. nat_le (length (links_of h y)) (length (links_of h (f x)))) (λ y. nat_le (length (links_of g y)) (length (links_of g x))) (links_of g x)
        (λ y m i. nat_le (degree_carried y (c.goes x y p m) i) (degree_carried x p i))
