-- The marked types are those that are reached, and touch the areas of a DELETE; these areas are known to the schema.
use Rattle.std.proofs.Common.{◌≡◌, ℕ, zero, suc, ◌+◌, ◌<◌, ◌≤◌, Bool, true, false, Some, cond, ◌&&◌, ◌||◌, ◌==◌, List, [], ◌∷◌, ◌++◌, length, map, refl, sym, ap, subst, ◌∙◌, inl, inr, arith}
use Rattle.std.specs.Prelude.{Option, None, filter, is_some, nat_lt, not, option_map, slice_get, unwrap_or}
use Rattle.std.specs.List.{list_any, list_all, range_with_len}
use Rattle.std.proofs.lemmas.Bool.{and_from, cases_lt, lt-ltb}
use Rattle.std.proofs.lemmas.List.Folds.{list_all-append}
use Rattle.std.proofs.lemmas.List.FromFn.{length-range_with_len}
use Rattle.std.proofs.lemmas.Option.{get_or_from_slice_get, slice_get_within}
use Rattle.dbtg_schema.specs.Lists.{Lists}
use Rattle.dbtg_schema.specs.Lookups.{flatten}
use Rattle.dbtg_schema.specs.Closure.{grown, reached_in}
use Rattle.dbtg_schema.specs.Structure.{owns, member_clause, set_numbers, home, area_of, areas_with_homes, erase_areas, reachable_types}
use Rattle.dbtg_schema.specs.declared.shape.RecordType.{RecordType}
use Rattle.dbtg_schema.specs.WellFormed.{IsRecordType, IsSchema}
use Rattle.dbtg_schema.specs.Inside.Erasing.{leads_to, is_home_of, touches, marked_in, is_given, is_next, is_touched, AreWays}
use Rattle.dbtg_schema.specs.Erasing.{marked}

any_filter : (q p : ℕ → Bool) (xs : List ℕ) → list_any q (filter p xs) ≡ list_any (λ x. p x && q x) xs
any_filter q p [] = refl
any_filter q p (x ∷ xs) = step (p x) (any_filter q p xs)
  where
    step : (b : Bool) → list_any q (filter p xs) ≡ list_any (λ x. p x && q x) xs → list_any q (cond b (x ∷ filter p xs) (filter p xs)) ≡ ((b && q x) || list_any (λ x. p x && q x) xs)
    step true h = ap (λ z. q x || z) h
    step false h = h

any_map : (p : ℕ → Bool) (f : ℕ → ℕ) (xs : List ℕ) → list_any p (map f xs) ≡ list_any (λ x. p (f x)) xs
any_map p f [] = refl
any_map p f (x ∷ xs) = ap (λ z. p (f x) || z) (any_map p f xs)

any_append : (p : ℕ → Bool) (xs ys : List ℕ) → list_any p (xs ++ ys) ≡ (list_any p xs || list_any p ys)
any_append p [] ys = refl
any_append p (x ∷ xs) ys = step (p x) (any_append p xs ys)
  where
    step : (b : Bool) → list_any p (xs ++ ys) ≡ (list_any p xs || list_any p ys) → (b || list_any p (xs ++ ys)) ≡ ((b || list_any p xs) || list_any p ys)
    step true h = refl
    step false h = h

any_flatten : (p : ℕ → Bool) (f : ℕ → List ℕ) (xs : List ℕ) → list_any p (flatten (map f xs)) ≡ list_any (λ x. list_any p (f x)) xs
any_flatten p f [] = refl
any_flatten p f (x ∷ xs) = any_append p (f x) (flatten (map f xs)) ∙ ap (λ z. list_any p (f x) || z) (any_flatten p f xs)

-- some number passes both or neither of two tests that agree
pub any_same : (p q : ℕ → Bool) (xs : List ℕ) → ((x : ℕ) → p x ≡ q x) → list_any p xs ≡ list_any q xs
any_same p q [] h = refl
any_same p q (x ∷ xs) h = ap (λ z. z || list_any p xs) (h x) ∙ ap (λ z. q x || z) (any_same p q xs h)

filter_range : (p q : ℕ → Bool) (i n : ℕ) → ((k : ℕ) → k < i + n → p k ≡ q k) → filter p (range_with_len i n) ≡ filter q (range_with_len i n)
filter_range p q i zero h = refl
filter_range p q i (suc n) h =
    ap (λ b. cond b (i ∷ filter p (range_with_len (i + 1) n)) (filter p (range_with_len (i + 1) n))) (h i (omega arith))
    ∙ ap (λ (ys : List ℕ). cond (q i) (i ∷ ys) ys) (filter_range p q (i + 1) n (λ k l. h k (omega arith)))

any_range : (p q : ℕ → Bool) (i n : ℕ) → ((k : ℕ) → k < i + n → p k ≡ q k) → list_any p (range_with_len i n) ≡ list_any q (range_with_len i n)
any_range p q i zero h = refl
any_range p q i (suc n) h =
    ap (λ z. z || list_any p (range_with_len (i + 1) n)) (h i (omega arith)) ∙ ap (λ z. q i || z) (any_range p q (i + 1) n (λ k l. h k (omega arith)))

-- a test that nothing passes keeps nothing
pub filter_none : (p : ℕ → Bool) (xs : List ℕ) → ((k : ℕ) → p k ≡ false) → filter p xs ≡ []
filter_none p [] h = refl
filter_none p (x ∷ xs) h = ap (λ b. cond b (x ∷ filter p xs) (filter p xs)) (h x) ∙ filter_none p xs h

abbrev types_of : Lists → List ℕ
types_of schema = range_with_len 0 (length schema.types)

abbrev leads : Lists → ℕ → ℕ → Bool
leads schema o m = list_any (λ s. owns schema s o && is_some (member_clause schema s m)) (set_numbers schema)

-- one round more
pub next_round : (schema : Lists) (t k : ℕ) (old new : List Bool) → filter (marked old) (types_of schema) ≡ reached_in (leads schema) (λ u. u == t) (types_of schema) k
    → ((y : ℕ) → y < length schema.types → marked new y ≡ (y == t || is_next schema old y)) → filter (marked new) (types_of schema) ≡ reached_in (leads schema) (λ u. u == t) (types_of schema) (suc k)
unfolding is_next leads_to
next_round schema t k old new same made =
    let same_next = λ (y : ℕ) (l : y < 0 + length schema.types).
    made y (omega arith) ∙ ap (λ b. y == t || b) (sym (any_filter (λ x. leads schema x y) (marked old) (types_of schema)) ∙ ap (list_any (λ x. leads schema x y)) same) in
    filter_range (marked new) (λ y. y == t || list_any (λ x. leads schema x y) (reached_in (leads schema) (λ u. u == t) (types_of schema) k)) 0 (length schema.types) same_next

-- the rows of marked types give the types to which these lead
pub given_is_next : (schema : Lists) (leads touched : List (List Bool)) (marks : List Bool) (y : ℕ) → AreWays schema leads touched → y < length schema.types → is_given leads (length schema.types) marks y ≡ is_next schema marks y
unfolding is_given is_next
given_is_next schema leads touched marks y ways lt =
    any_range (λ x. marked marks x && marked_in leads x y) (λ x. marked marks x && leads_to schema x y) 0 (length schema.types) (λ x l. ap (λ z. marked marks x && z) (ways.leads_right x y (omega arith) lt))

-- and the areas that these touch
pub given_is_touched : (schema : Lists) (leads touched : List (List Bool)) (marks : List Bool) (a : ℕ) → AreWays schema leads touched → a < 8 → is_given touched (length schema.types) marks a ≡ is_touched schema marks a
unfolding is_given is_touched
given_is_touched schema leads touched marks a ways lt =
    any_range (λ x. marked marks x && marked_in touched x a) (λ x. marked marks x && touches schema x a) 0 (length schema.types) (λ x l. ap (λ z. marked marks x && z) (ways.touched_right x a (omega arith) lt))

-- if one round changes nothing, no later round does
all_after : (schema : Lists) (t n k : ℕ) → reached_in (leads schema) (λ u. u == t) (types_of schema) k ≡ reached_in (leads schema) (λ u. u == t) (types_of schema) (suc k) → k ≤ n
    → reached_in (leads schema) (λ u. u == t) (types_of schema) k ≡ reached_in (leads schema) (λ u. u == t) (types_of schema) n
all_after schema t zero k same l =
    let e : k ≡ zero = omega arith in
    ap (reached_in (leads schema) (λ u. u == t) (types_of schema)) e
all_after schema t (suc n) k same l =
    elim (cases_lt n k) [
      | inl past ↦
          let e : k ≡ suc n = omega arith in
          ap (reached_in (leads schema) (λ u. u == t) (types_of schema)) e
      | inr within ↦ same ∙ ap (grown (leads schema) (λ u. u == t) (types_of schema)) (all_after schema t n k same within)
    ]

-- a round that changes nothing is the last
pub settled : (schema : Lists) (t k : ℕ) (marks : List Bool) → filter (marked marks) (types_of schema) ≡ reached_in (leads schema) (λ u. u == t) (types_of schema) k
    → filter (marked marks) (types_of schema) ≡ reached_in (leads schema) (λ u. u == t) (types_of schema) (suc k) → k ≤ length schema.types → filter (marked marks) (types_of schema) ≡ reachable_types schema t
settled schema t k marks same next l =
    let many = length-range_with_len 0 (length schema.types) in
    same ∙ all_after schema t (length (types_of schema)) k (sym same ∙ next) (omega (arith, many, l))

-- no type is marked at first
pub none_marked : (schema : Lists) (t : ℕ) (marks : List Bool) → ((y : ℕ) → marked marks y ≡ false) → filter (marked marks) (types_of schema) ≡ []
none_marked schema t marks h = filter_none (marked marks) (types_of schema) h

touches_is : (schema : Lists) (t a : ℕ) → list_any (λ b. b == a) (areas_with_homes schema t) ≡ touches schema t a
unfolding is_home_of
touches_is schema t a =
    ap (λ z. area_of schema t == a || z) (any_map (λ b. b == a) (home schema) (filter (λ s. is_some (member_clause schema s t)) (set_numbers schema))
    ∙ any_filter (λ s. home schema s == a) (λ s. is_some (member_clause schema s t)) (set_numbers schema))

-- the areas that the marked types touch are those of a DELETE
pub touched : (schema : Lists) (t a : ℕ) (marks : List Bool) → filter (marked marks) (types_of schema) ≡ reachable_types schema t → is_touched schema marks a ≡ list_any (λ b. b == a) (erase_areas schema t)
unfolding is_touched
touched schema t a marks same =
    sym (any_flatten (λ b. b == a) (areas_with_homes schema) (reachable_types schema t)
    ∙ ap (list_any (λ x. list_any (λ b. b == a) (areas_with_homes schema x))) (sym same)
    ∙ any_filter (λ x. list_any (λ b. b == a) (areas_with_homes schema x)) (marked marks) (types_of schema)
    ∙ any_same (λ x. marked marks x && list_any (λ b. b == a) (areas_with_homes schema x)) (λ x. marked marks x && touches schema x a) (types_of schema) (λ x. ap (λ z. marked marks x && z) (touches_is schema x a)))

pub off : (marks : List Bool) (n : ℕ) → list_all not marks ≡ true → marked marks n ≡ false
off [] n h = refl
off (true ∷ marks) n h = absurd cc
off (false ∷ marks) zero h = refl
off (false ∷ marks) (suc n) h = off marks n h

pub all_rounds : (schema : Lists) (t k : ℕ) (marks : List Bool) → filter (marked marks) (types_of schema) ≡ reached_in (leads schema) (λ u. u == t) (types_of schema) k → k ≡ length schema.types → filter (marked marks) (types_of schema) ≡ reachable_types schema t
all_rounds schema t k marks same e =
    subst (λ (n : ℕ). filter (marked marks) (types_of schema) ≡ reached_in (leads schema) (λ u. u == t) (types_of schema) n) (e ∙ sym (length-range_with_len 0 (length schema.types))) same

module _ (schema : Lists) (limits : IsSchema schema) where
  abbrev is_area : ℕ → Bool
  is_area a = nat_lt a (length schema.areas)

  area_of_type : (t : ℕ) (r : Option RecordType) → slice_get schema.types t ≡ r → unwrap_or (option_map (λ x. x.area) r) 0 < length schema.areas
  area_of_type t None is = limits.some_area
  area_of_type t (Some r) is =
      (subst (IsRecordType schema) (get_or_from_slice_get schema.types t r r is) (limits.types t r (slice_get_within schema.types t r is))).area

  type_known : (t : ℕ) → is_area (area_of schema t) ≡ true
  type_known t = lt-ltb _ _ (area_of_type t (slice_get schema.types t) refl)

  homes_known : (sets : List ℕ) → list_all is_area (map (home schema) sets) ≡ true
  homes_known [] = refl
  homes_known (s ∷ sets) = and_from _ _ (type_known _) (homes_known sets)

  types_known : (ts : List ℕ) → list_all is_area (flatten (map (areas_with_homes schema) ts)) ≡ true
  types_known [] = refl
  types_known (t ∷ ts) =
      list_all-append is_area (areas_with_homes schema t) _ ∙ and_from _ _ (and_from _ _ (type_known t) (homes_known _)) (types_known ts)

  -- the areas of a DELETE are areas of the schema
  pub erase_known : (t : ℕ) → list_all is_area (erase_areas schema t) ≡ true
  erase_known t = types_known (reachable_types schema t)
