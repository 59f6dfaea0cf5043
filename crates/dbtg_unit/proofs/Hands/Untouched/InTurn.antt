-- The doomed records in turn are exactly the doomed records, each once.
use Rattle.std.proofs.Common.{◌≡◌, refl, sym, ◌∙◌, ap, subst, ℕ, zero, suc, ◌+◌, ◌<◌, ◌≤◌, Bool, true, false, cond, not, ◌&&◌, ◌||◌, List, [], ◌∷◌, ◌++◌, length, Option, Some, None, inl, inr, arith, append_assoc, zero-add, append-nil}
use Rattle.std.specs.Prelude.{filter, slice_get}
use Rattle.std.specs.List.{list_all}
use Rattle.std.proofs.lemmas.Bool.{and_parts, and_from, or_left, or_right, false≢true, false_from_ne_true, cases_Bool, cases_eq}
use Rattle.std.proofs.lemmas.Option.{none-some, same_Some, slice_get_within}
use Rattle.std.proofs.lemmas.List.Folds.{list_any-append, list_all-append}
use Rattle.std.proofs.lemmas.List.Filters.{length-filter_both}
use Rattle.dbtg_schema.specs.Lists.{Lists}
use Rattle.dbtg_schema.specs.Structure.{set_numbers}
use Rattle.dbtg_cells.specs.declared.key.DbKey.{DbKey}
use Rattle.dbtg_cells.specs.declared.key.Owner.TheVariants.{Rec}
use Rattle.dbtg_cells.specs.Keys.{key_eq}
use Rattle.dbtg_cells.proofs.Public.{key_eq_refl, same_key}
use Rattle.dbtg_unit.specs.declared.statement.Erase.{Erase}
use Rattle.dbtg_unit.specs.Database.State.Base.{Database, is_live, members_of, is_member}
use Rattle.dbtg_unit.specs.Database.Statements.Doomed.{all_keys, doomed, drags, takes}
use Rattle.dbtg_unit.specs.Hands.Erasing.{with_those, taken_with, spread, doomed_in_turn}
use Rattle.dbtg_unit.specs.Inside.Erasing.{spread_from}
use Rattle.dbtg_unit.specs.Database.State.Legal.{Legal, pairwise, differ}
use Rattle.dbtg_unit.proofs.Lists.Listing.{pairwise_push}
use Rattle.dbtg_unit.proofs.Database.Legal.ListsChanged.{differ_swap, keeps_member}
use Rattle.dbtg_unit.proofs.Lists.WithANewMember.{all_weaker, all_both}
use Rattle.dbtg_unit.proofs.Database.Laws.PlacingOrder.{all_from_none}
use Rattle.dbtg_unit.proofs.Database.Records.LiveKeys.{in_member, member_in, live_in_all}
use Rattle.dbtg_unit.proofs.Lists.Membership.{In, all_at, any_in, any_element, in_filter, of_filter, in_flat_map, of_flat_map, place_of_element}
use Rattle.dbtg_unit.proofs.Database.Laws.LeastSets.{doomed_is_least_set}

-- KEYS, EACH ONCE

shorter : (x : DbKey) (ys : List DbKey) → is_member x ys ≡ true → length (filter (differ x) ys) < length ys
shorter x [] h = absurd (false≢true h)
shorter x (y ∷ ys) h =
    elim (cases_Bool (key_eq x y)) [
      | inl e ↦
          let both = length-filter_both (differ x) (λ z. not (differ x z)) (λ z. refl) ys in
          subst (λ b. length (cond (not b) (y ∷ filter (differ x) ys) (filter (differ x) ys)) < length (y ∷ ys)) (sym e) (omega arith)
      | inr e ↦
          let rest = shorter x ys (subst (λ b. (b || is_member x ys) ≡ true) e h) in
          subst (λ b. length (cond (not b) (y ∷ filter (differ x) ys) (filter (differ x) ys)) < length (y ∷ ys)) (sym e) (omega arith)
    ]

-- distinct keys that are all in a list are no more than it has
pub no_more : (xs ys : List DbKey) → pairwise differ xs ≡ true → list_all (λ x. is_member x ys) xs ≡ true → length xs ≤ length ys
no_more [] ys h g = omega arith
no_more (x ∷ xs) ys h g =
    let hs = and_parts _ _ h in
    let gs = and_parts _ _ g in
    let less = shorter x ys gs.0 in
    let rest = no_more xs (filter (differ x) ys) hs.1 (all_both (differ x) (λ z. is_member z ys) (λ z. is_member z (filter (differ x) ys)) xs (λ z d m. keeps_member z (differ x) ys m d) hs.0 gs.1) in
    omega arith

-- WITH THOSE

pub with_those_extends : (order xs : List DbKey) → (ys : List DbKey) × (with_those order xs ≡ order ++ ys)
with_those_extends order [] = ([], sym (append-nil order))
with_those_extends order (x ∷ xs) =
    elim (is_member x order) as (λ b. (ys : List DbKey) × (with_those (cond b order (order ++ x ∷ [])) xs ≡ order ++ ys)) [
      | true ↦ with_those_extends order xs
      | false ↦ let r = with_those_extends (order ++ x ∷ []) xs in (x ∷ r.0, r.1 ∙ append_assoc order (x ∷ []) r.0)
    ]

still : (order xs : List DbKey) (y : DbKey) → is_member y order ≡ true → is_member y (with_those order xs) ≡ true
still order xs y h = let r = with_those_extends order xs in ap (is_member y) r.1 ∙ list_any-append (key_eq y) order r.0 ∙ or_left _ _ h

pub has_those : (order xs : List DbKey) (y : DbKey) → In y xs → is_member y (with_those order xs) ≡ true
has_those order [] y i = absurd i
has_those order (x ∷ xs) y i = elim i [
  | inl e ↦ subst (λ (z : DbKey). is_member z (with_those order (x ∷ xs)) ≡ true) e (still (cond (is_member x order) order (order ++ x ∷ [])) xs x (has_it (is_member x order) refl))
  | inr j ↦ has_those (cond (is_member x order) order (order ++ x ∷ [])) xs y j
] where
  has_it : (b : Bool) → is_member x order ≡ b → is_member x (cond b order (order ++ x ∷ [])) ≡ true
  has_it true h = h
  has_it false h = list_any-append (key_eq x) order (x ∷ []) ∙ or_right _ _ (or_left _ _ (key_eq_refl x))

pub each_once : (order xs : List DbKey) → pairwise differ order ≡ true → pairwise differ (with_those order xs) ≡ true
each_once order [] h = h
each_once order (x ∷ xs) h = each_once (cond (is_member x order) order (order ++ x ∷ [])) xs (one_more (is_member x order) refl) where
  one_more : (b : Bool) → is_member x order ≡ b → pairwise differ (cond b order (order ++ x ∷ [])) ≡ true
  one_more true e = h
  one_more false e = pairwise_push differ order x h (all_weaker (λ y. not (key_eq x y)) (λ y. differ y x) order (λ y d. differ_swap x y d) (all_from_none (key_eq x) order e))

-- what passes brings along what passes
pub with_those_pass : (p : DbKey → Bool) (order xs : List DbKey) → list_all p order ≡ true → list_all p xs ≡ true → list_all p (with_those order xs) ≡ true
with_those_pass p order [] h g = h
with_those_pass p order (x ∷ xs) h g =
    let gs = and_parts _ _ g in
    with_those_pass p (cond (is_member x order) order (order ++ x ∷ [])) xs
    (elim (is_member x order) as (λ b. list_all p (cond b order (order ++ x ∷ [])) ≡ true) [ true ↦ h | false ↦ list_all-append p order (x ∷ []) ∙ and_from _ _ h (and_from _ _ gs.0 refl) ]) gs.1

-- what stands in the first of two lists stands there in both
pub slice_get_front : {X : Type 0} (xs ys : List X) (j : ℕ) → j < length xs → slice_get (xs ++ ys) j ≡ slice_get xs j
slice_get_front [] ys j h = absurd (omega arith)
slice_get_front (x ∷ xs) ys zero h = refl
slice_get_front (x ∷ xs) ys (suc j) h = slice_get_front xs ys j (omega arith)

-- what a list has at an index is an element of it
pub element_at : {X : Type 0} (xs : List X) (j : ℕ) (x : X) → slice_get xs j ≡ Some x → In x xs
element_at [] j x h = absurd (none-some x h)
element_at (y ∷ ys) zero x h = inl (same_Some y x h)
element_at (y ∷ ys) (suc j) x h = inr (element_at ys j x h)

pub all_from : (p : DbKey → Bool) (xs : List DbKey) → ((x : DbKey) → In x xs → p x ≡ true) → list_all p xs ≡ true
all_from p [] h = refl
all_from p (x ∷ xs) h = and_from _ _ (h x (inl refl)) (all_from p xs (λ y j. h y (inr j)))

-- IN TURN

module _ (schema : Lists) (capacity : ℕ) (db : Database) (legal : Legal schema capacity db) (option : Erase) where
  taken_live : (d : DbKey) → list_all (is_live db) (taken_with schema capacity db option d) ≡ true
  taken_live d = all_from (is_live db) (taken_with schema capacity db option d) (λ x i.
      let s = of_flat_map (λ s. filter (takes schema capacity db option s (Rec d)) (members_of db s (Rec d))) x (set_numbers schema) i in
      let kept = of_filter (takes schema capacity db option s.0 (Rec d)) x (members_of db s.0 (Rec d)) s.2 in
      (legal.members s.0 (Rec d) x (in_member x (members_of db s.0 (Rec d)) kept.0)).0)

  -- those before place i have brought all that they drag along; the keys are live, each once
  record Turn (i : ℕ) (order : List DbKey) : Type 0 where
    brought : (j : ℕ) (x : DbKey) → j < i → slice_get order j ≡ Some x → (y : DbKey) → In y (taken_with schema capacity db option x) → is_member y order ≡ true
    once : pairwise differ order ≡ true
    live : list_all (is_live db) order ≡ true

  next_turn : (i : ℕ) (order : List DbKey) → Turn i order → Turn (suc i) (spread_from schema capacity db option order (slice_get order i))
  next_turn i order h = by_key (slice_get order i) refl where
    by_key : (d : Option DbKey) → slice_get order i ≡ d → Turn (suc i) (spread_from schema capacity db option order d)
    by_key None e = record {
      brought = λ j x below at y m. h.brought j x (elim (cases_eq j i) [ inl same ↦ absurd (none-some x (sym e ∙ ap (slice_get order) (sym same) ∙ at)) | inr apart ↦ omega arith ]) at y m;
      once = h.once;
      live = h.live;
    }
    by_key (Some d) e =
        let news = taken_with schema capacity db option d in
        let r = with_those_extends order news in
        let long : i < length order = slice_get_within order i d e in
        record {
          brought = λ j x below at y m.
              let near : j < length order = omega arith in
              let was : slice_get order j ≡ Some x = sym (slice_get_front order r.0 j near) ∙ ap (λ ys. slice_get ys j) (sym r.1) ∙ at in
              elim (cases_eq j i) [
                | inl same ↦
                    let is_d : d ≡ x = same_Some d x (sym e ∙ ap (slice_get order) (sym same) ∙ was) in
                    has_those order news y (subst (λ (z : DbKey). In y (taken_with schema capacity db option z)) (sym is_d) m)
                | inr apart ↦ still order news y (h.brought j x (omega arith) was y m)
              ];
          once = each_once order news h.once;
          live = with_those_pass (is_live db) order news h.live (taken_live d);
        }

  all_turns : (n i : ℕ) (order : List DbKey) → Turn i order → Turn (i + n) (spread schema capacity db option n i order)
  all_turns zero i order h = subst (λ m. Turn m order) (omega arith) h
  all_turns (suc n) i order h = subst (λ m. Turn m (spread schema capacity db option n (suc i) (spread_from schema capacity db option order (slice_get order i)))) (omega arith) (all_turns n (suc i) _ (next_turn i order h))

  kept_through : (n i : ℕ) (order : List DbKey) (x : DbKey) → is_member x order ≡ true → is_member x (spread schema capacity db option n i order) ≡ true
  kept_through zero i order x h = h
  kept_through (suc n) i order x h = kept_through n (suc i) (spread_from schema capacity db option order (slice_get order i)) x (by_key (slice_get order i)) where
    by_key : (d : Option DbKey) → is_member x (spread_from schema capacity db option order d) ≡ true
    by_key None = h
    by_key (Some d) = still order (taken_with schema capacity db option d) x h

  module _ (k : DbKey) (live : is_live db k ≡ true) where
    order : List DbKey
    order = doomed_in_turn schema capacity db option k

    turns : Turn (length (all_keys schema capacity db)) order
    unfolding order
    turns = subst (λ m. Turn m (doomed_in_turn schema capacity db option k)) (zero-add (length (all_keys schema capacity db))) (all_turns (length (all_keys schema capacity db)) 0 (k ∷ []) (record {
      brought = λ j x below at y m. absurd (omega arith);
      once = refl;
      live = and_from _ _ live refl;
    }))

    -- no more turns are needed
    enough : length order ≤ length (all_keys schema capacity db)
    enough = no_more order (all_keys schema capacity db) turns.once (all_weaker (is_live db) (λ x. is_member x (all_keys schema capacity db)) order (λ x l. in_member x (all_keys schema capacity db) (live_in_all schema capacity db legal x l)) turns.live)

    -- what a doomed record drags along is met too
    closed : (x y : DbKey) → is_member x order ≡ true → drags schema capacity db option x y ≡ true → is_member y order ≡ true
    closed x y h d =
        let at = place_of_element x order (member_in x order h) in
        let near = slice_get_within order at.0 x at.1 in
        let most = enough in
        let s = any_element (λ s. is_member y (members_of db s (Rec x)) && takes schema capacity db option s (Rec x) y) (set_numbers schema) d in
        let parts = and_parts _ _ s.2 in
        turns.brought at.0 x (omega arith) at.1 y
        (in_flat_map (λ s. filter (takes schema capacity db option s (Rec x)) (members_of db s (Rec x))) s.0 y (set_numbers schema) s.1
        (in_filter (takes schema capacity db option s.0 (Rec x)) y (members_of db s.0 (Rec x)) (member_in y (members_of db s.0 (Rec x)) parts.0) parts.1))

    pub doomed_is_met : (x : DbKey) → is_member x (doomed schema capacity db option k) ≡ true → is_member x (doomed_in_turn schema capacity db option k) ≡ true
    unfolding order
    doomed_is_met x h =
        (doomed_is_least_set schema capacity db option k).least (λ y. is_member y order)
        (λ y e. subst (λ (z : DbKey). is_member z order ≡ true) (same_key k y e) (kept_through (length (all_keys schema capacity db)) 0 (k ∷ []) k (or_left _ _ (key_eq_refl k))))
        closed x h

    -- what is met in turn is doomed
    abbrev is_doomed : DbKey → Bool
    is_doomed x = is_member x (doomed schema capacity db option k)

    dragged : (d : DbKey) → is_doomed d ≡ true → list_all is_doomed (taken_with schema capacity db option d) ≡ true
    dragged d h = all_from is_doomed (taken_with schema capacity db option d) (λ x i.
        let s = of_flat_map (λ s. filter (takes schema capacity db option s (Rec d)) (members_of db s (Rec d))) x (set_numbers schema) i in
        let kept = of_filter (takes schema capacity db option s.0 (Rec d)) x (members_of db s.0 (Rec d)) s.2 in
        let member = in_member x (members_of db s.0 (Rec d)) kept.0 in
        (doomed_is_least_set schema capacity db option k).closed d x h
        (any_in (λ s. is_member x (members_of db s (Rec d)) && takes schema capacity db option s (Rec d) x) s.0 (set_numbers schema) s.1 (and_from _ _ member kept.1))
        (in_member x (all_keys schema capacity db) (live_in_all schema capacity db legal x (legal.members s.0 (Rec d) x member).0)))

    spread_doomed : (n i : ℕ) (met : List DbKey) → list_all is_doomed met ≡ true → list_all is_doomed (spread schema capacity db option n i met) ≡ true
    spread_doomed zero i met h = h
    spread_doomed (suc n) i met h = spread_doomed n (suc i) (spread_from schema capacity db option met (slice_get met i)) (by_key (slice_get met i) refl) where
      by_key : (d : Option DbKey) → slice_get met i ≡ d → list_all is_doomed (spread_from schema capacity db option met d) ≡ true
      by_key None e = h
      by_key (Some d) e = with_those_pass is_doomed met (taken_with schema capacity db option d) h (dragged d (all_at is_doomed d met h (element_at met i d e)))

    pub met_is_doomed : (x : DbKey) → is_member x (doomed_in_turn schema capacity db option k) ≡ true → is_member x (doomed schema capacity db option k) ≡ true
    met_is_doomed x h =
        let start : is_doomed k ≡ true = (doomed_is_least_set schema capacity db option k).starts k (in_member k (all_keys schema capacity db) (live_in_all schema capacity db legal k live)) (key_eq_refl k) in
        all_at is_doomed x (doomed_in_turn schema capacity db option k) (spread_doomed (length (all_keys schema capacity db)) 0 (k ∷ []) (and_from _ _ start refl)) (member_in x _ h)

    pub doomed_as_met : (x : DbKey) → is_member x (doomed schema capacity db option k) ≡ is_member x (doomed_in_turn schema capacity db option k)
    doomed_as_met x =
        elim (cases_Bool (is_member x (doomed_in_turn schema capacity db option k))) [
          | inl e ↦ met_is_doomed x e ∙ sym e
          | inr e ↦ false_from_ne_true _ (λ h. false≢true (sym e ∙ doomed_is_met x h)) ∙ sym e
        ]

    pub met_are_live : list_all (is_live db) (doomed_in_turn schema capacity db option k) ≡ true
    unfolding order
    met_are_live = turns.live

    pub met_once : pairwise differ (doomed_in_turn schema capacity db option k) ≡ true
    unfolding order
    met_once = turns.once

    pub met_few : length (doomed_in_turn schema capacity db option k) ≤ length (all_keys schema capacity db)
    unfolding order
    met_few = enough
