-- Where all members go with their owners, none is left behind.
use Rattle.std.proofs.Common.{◌≡◌, refl, sym, ◌∙◌, ap, subst, ℕ, zero, suc, ◌+◌, ◌<◌, ◌≤◌, Bool, true, false, cond, not, List, [], ◌∷◌, ◌++◌, length, Option, Some, None, inl, inr, arith}
use Rattle.std.specs.Prelude.{filter, slice_get}
use Rattle.std.specs.List.{flat_map, list_all}
use Rattle.std.proofs.lemmas.Bool.{and_parts, cases_eq, or_left, or_right}
use Rattle.std.proofs.lemmas.Option.{none-some, same_Some, slice_get_within}
use Rattle.std.proofs.lemmas.List.Folds.{list_any-append}
use Rattle.dbtg_schema.specs.Lists.{Lists}
use Rattle.dbtg_cells.specs.declared.key.DbKey.{DbKey}
use Rattle.dbtg_cells.specs.Keys.{is_member, key_eq}
use Rattle.dbtg_cells.proofs.Public.{key_eq_refl}
use Rattle.dbtg_unit.specs.declared.statement.Erase.TheVariants.{All}
use Rattle.dbtg_unit.specs.Hands.EditsOf.{left_behind}
use Rattle.dbtg_unit.specs.Hands.Erasing.{brought, brought_from, with_those}
use Rattle.dbtg_unit.specs.Hands.Hands.{Hands}
use Rattle.dbtg_unit.proofs.Public.{In, all_from, of_flat_map, slice_get_front, with_those_extends}
use Rattle.dbtg_erase.specs.WorkList.{gone_in, list_in, members_in_hand, most_gone, own_sets, taken_in, taken_of_set}

-- what a list has, it has with others too
still_there : (order xs : List DbKey) (y : DbKey) → is_member y order ≡ true → is_member y (with_those order xs) ≡ true
still_there order xs y h = let r = with_those_extends order xs in ap (is_member y) r.1 ∙ list_any-append (key_eq y) order r.0 ∙ or_left _ _ h

brought_there : (order xs : List DbKey) (y : DbKey) → In y xs → is_member y (with_those order xs) ≡ true
brought_there order [] y i = absurd i
brought_there order (x ∷ xs) y i = elim i [
  | inl e ↦ subst (λ (z : DbKey). is_member z (with_those order (x ∷ xs)) ≡ true) e (still_there (cond (is_member x order) order (order ++ x ∷ [])) xs x (here (is_member x order) refl))
  | inr j ↦ brought_there (cond (is_member x order) order (order ++ x ∷ [])) xs y j
] where
  here : (b : Bool) → is_member x order ≡ b → is_member x (cond b order (order ++ x ∷ [])) ≡ true
  here true h = h
  here false h = list_any-append (key_eq x) order (x ∷ []) ∙ or_right _ _ (or_left _ _ (key_eq_refl x))

module _ (taken : DbKey → List DbKey) where
  -- each key in front of place i has brought those that it takes along
  abbrev Settled : ℕ → List DbKey → Type 0
  Settled i order = (j : ℕ) (d : DbKey) → j < i → slice_get order j ≡ Some d → (x : DbKey) → In x (taken d) → is_member x order ≡ true

  next_settled : (i : ℕ) (order : List DbKey) → Settled i order → Settled (suc i) (brought_from taken order (slice_get order i))
  next_settled i order h = by (slice_get order i) refl where
    by : (o : Option DbKey) → slice_get order i ≡ o → Settled (suc i) (brought_from taken order o)
    by None e j d below at x m = h j d (elim (cases_eq j i) [ inl same ↦ absurd (none-some d (sym e ∙ ap (slice_get order) (sym same) ∙ at)) | inr apart ↦ omega arith ]) at x m
    by (Some c) e j d below at x m =
        let r = with_those_extends order (taken c) in
        let long : i < length order = slice_get_within order i c e in
        let near : j < length order = omega arith in
        let was : slice_get order j ≡ Some d = sym (slice_get_front order r.0 j near) ∙ ap (λ ys. slice_get ys j) (sym r.1) ∙ at in
        elim (cases_eq j i) [
          | inl same ↦ brought_there order (taken c) x (subst (λ (z : DbKey). In x (taken z)) (sym (same_Some c d (sym e ∙ ap (slice_get order) (sym same) ∙ was))) m)
          | inr apart ↦ still_there order (taken c) x (h j d (omega arith) was x m)
        ]

  all_settled : (n i : ℕ) (order : List DbKey) → Settled i order → Settled (i + n) (brought taken n i order)
  all_settled zero i order h = subst (λ m. Settled m order) (omega arith) h
  all_settled (suc n) i order h =
      subst (λ m. Settled m (brought taken n (suc i) (brought_from taken order (slice_get order i)))) (omega arith)
      (all_settled n (suc i) (brought_from taken order (slice_get order i)) (next_settled i order h))

place_of_key : (x : DbKey) (xs : List DbKey) → In x xs → (j : ℕ) × (slice_get xs j ≡ Some x)
place_of_key x [] i = absurd i
place_of_key x (y ∷ xs) i = elim i [ inl e ↦ (0, ap Some e) | inr k ↦ let r = place_of_key x xs k in (suc r.0, r.1) ]

-- each member is taken
all_pass : (xs : List DbKey) → filter (λ m. true) xs ≡ xs
all_pass [] = refl
all_pass (x ∷ xs) = ap (λ l. x ∷ l) (all_pass xs)

takes_each : (schema : Lists) (hands : Hands) (d : DbKey) (sets : List ℕ) → flat_map (taken_of_set schema hands All d) sets ≡ flat_map (list_in hands d) sets
takes_each schema hands d [] = refl
takes_each schema hands d (s ∷ ss) =
    ap (λ l. l ++ flat_map (taken_of_set schema hands All d) ss) (all_pass (list_in hands d s))
    ∙ ap (λ l. list_in hands d s ++ l) (takes_each schema hands d ss)

none_outside : (gone xs : List DbKey) → list_all (λ x. is_member x gone) xs ≡ true → filter (λ x. not (is_member x gone)) xs ≡ []
none_outside gone [] h = refl
none_outside gone (x ∷ xs) h =
    let hs = and_parts _ _ h in
    ap (λ b. cond (not b) (x ∷ filter (λ y. not (is_member y gone)) xs) (filter (λ y. not (is_member y gone)) xs)) hs.0 ∙ none_outside gone xs hs.1

-- no more go than there are numbers, so that each has brought its members
pub none_left : (schema : Lists) (capacity : ℕ) (hands : Hands) (k : DbKey) (gone : List DbKey) → gone ≡ gone_in schema capacity hands All k → length gone ≤ most_gone schema capacity
    → left_behind (members_in_hand schema hands) gone ≡ []
none_left schema capacity hands k gone is few = ap (with_those []) (none_outside gone (flat_map (members_in_hand schema hands) gone) (all_from (λ x. is_member x gone) _ each)) where
  settled : Settled (taken_in schema hands All) (most_gone schema capacity) gone
  settled = subst (Settled (taken_in schema hands All) (most_gone schema capacity)) (sym is) (subst (λ n. Settled (taken_in schema hands All) n (gone_in schema capacity hands All k)) (omega arith) (all_settled (taken_in schema hands All) (most_gone schema capacity) 0 (k ∷ []) (λ j d below at x m. absurd (omega arith))))

  each : (x : DbKey) → In x (flat_map (members_in_hand schema hands) gone) → is_member x gone ≡ true
  each x i =
      let d = of_flat_map (members_in_hand schema hands) x gone i in
      let at = place_of_key d.0 gone d.1 in
      let within : at.0 < length gone = slice_get_within gone at.0 d.0 at.1 in
      settled at.0 d.0 (omega arith) at.1 x (subst (λ l. In x l) (sym (takes_each schema hands d.0 (own_sets schema d.0))) d.2)
