-- The cells around the records that go, as they are read from those, and in the order of cells.
use Rattle.std.proofs.Common.{◌≡◌, refl, sym, ◌∙◌, ap, subst, ℕ, arith, Bool, true, false, cond, eqb, List, [], ◌∷◌, length, Option, Some, None, inl, inr, ⊎_elim, map}
use Rattle.std.specs.Prelude.{filter, nat_lt, option_map, unwrap_or}
use Rattle.std.specs.List.{flat_map, list_all, list_any, range_with_len}
use Rattle.std.proofs.lemmas.Bool.{and_from, and_parts, eq-eqb, eqb-true, or_left, or_right}
use Rattle.dbtg_schema.specs.Lists.{Lists}
use Rattle.dbtg_schema.specs.Structure.{is_system, owner_type, set_numbers}
use Rattle.dbtg_cells.specs.declared.key.DbKey.{DbKey}
use Rattle.dbtg_cells.specs.declared.key.Owner.{Owner}
use Rattle.dbtg_cells.specs.declared.key.Owner.TheVariants.{System, Rec}
use Rattle.dbtg_cells.specs.declared.name.CellName.{CellName}
use Rattle.dbtg_cells.specs.declared.name.CellName.TheVariants.{Extent, Ring}
use Rattle.dbtg_cells.specs.Keys.{is_member}
use Rattle.dbtg_cells.specs.Names.{name_below}
use Rattle.dbtg_unit.specs.Database.State.Base.{Database, is_live, key_at, live_keys, members_of, owner_of, owners}
use Rattle.dbtg_unit.specs.Database.State.CellNames.{place_of}
use Rattle.dbtg_unit.specs.Hands.Erasing.{outer_cells}
use Rattle.dbtg_unit.specs.Hands.Hands.{Hands}
use Rattle.dbtg_unit.specs.Hands.InHand.{owner_in}
use Rattle.dbtg_unit.specs.Database.State.Legal.{Legal, pairwise}
use Rattle.dbtg_unit.specs.Hands.Needs.{ring_names}
use Rattle.dbtg_unit.proofs.Public.{In, all_at, all_in, any_element, any_in, ascending_join, ascending_range, in_filter, in_flat_map, in_left, in_map}
use Rattle.dbtg_unit.proofs.Public.{in_range, in_right, listed_has_occurrence, member_of_owner, of_append, of_filter, of_flat_map, of_map}
use Rattle.dbtg_unit.proofs.Public.{owner_in as among_owners, owner_of_member, pairwise_filter}
use Rattle.dbtg_erase.specs.NextCell.{outer_names}

-- IN ORDER

pairwise_map : {X Y : Type 0} (f : X → Y) (r : Y → Y → Bool) (q : X → X → Bool) (xs : List X) → ((x y : X) → q x y ≡ true → r (f x) (f y) ≡ true) → pairwise q xs ≡ true → pairwise r (map f xs) ≡ true
pairwise_map f r q [] h g = refl
pairwise_map f r q (x ∷ xs) h g = let gs = and_parts _ _ g in and_from _ _ (all xs gs.0) (pairwise_map f r q xs h gs.1) where
  all : (ys : List _) → list_all (q x) ys ≡ true → list_all (r (f x)) (map f ys) ≡ true
  all [] e = refl
  all (y ∷ ys) e = let es = and_parts _ _ e in and_from _ _ (h x y es.0) (all ys es.1)

-- rings set by set
rings_ascend : (f : ℕ → List CellName) (sets : List ℕ) → pairwise nat_lt sets ≡ true
    → ((s t : ℕ) (c d : CellName) → In c (f s) → In d (f t) → nat_lt s t ≡ true → name_below c d ≡ true) → ((s : ℕ) → pairwise name_below (f s) ≡ true) → pairwise name_below (flat_map f sets) ≡ true
rings_ascend f [] h between each = refl
rings_ascend f (s ∷ sets) h between each =
    let hs = and_parts _ _ h in
    ascending_join name_below (f s) (flat_map f sets) (each s) (rings_ascend f sets hs.1 between each)
    (λ c i. all_in (name_below c) (flat_map f sets) (λ d j. let t = of_flat_map f d sets j in between s t.0 c d i t.2 (all_at (nat_lt s) t.0 sets hs.0 t.1)))

module _ (schema : Lists) (capacity : ℕ) (db : Database) (gone : List DbKey) where
  abbrev has_type_gone : ℕ → Bool
  has_type_gone t = list_any (λ d. eqb d.rtype t) gone

  abbrev extents : List CellName
  extents = map Extent (filter has_type_gone (range_with_len 0 (length schema.types)))

  abbrev has_gone : ℕ → Owner → Bool
  has_gone s o = list_any (λ d. is_member d (members_of db s o)) gone

  abbrev rings_of : ℕ → List CellName
  rings_of s = map (λ o. Ring s (place_of o)) (filter (has_gone s) (owners schema capacity db s))

  abbrev rings : List CellName
  rings = flat_map rings_of (set_numbers schema)

  extents_ascend : pairwise name_below extents ≡ true
  extents_ascend =
      pairwise_map Extent name_below nat_lt (filter has_type_gone (range_with_len 0 (length schema.types))) (λ t u h. h)
      (pairwise_filter nat_lt has_type_gone (range_with_len 0 (length schema.types)) (ascending_range 0 (length schema.types)))

  -- the owners of a set, by their rings
  abbrev before : ℕ → Owner → Owner → Bool
  before s o p = name_below (Ring s (place_of o)) (Ring s (place_of p))

  keys_ascend : (s t : ℕ) → pairwise (before s) (map Rec (live_keys capacity db t)) ≡ true
  keys_ascend s t =
      pairwise_map Rec (before s) (λ j k. before s (Rec j) (Rec k)) (live_keys capacity db t) (λ j k h. h)
      (pairwise_filter (λ j k. before s (Rec j) (Rec k)) (is_live db) (map (key_at db t) (range_with_len 1 capacity))
      (pairwise_map (key_at db t) (λ j k. before s (Rec j) (Rec k)) nat_lt (range_with_len 1 capacity)
      (λ n m h. or_right _ _ (and_from _ _ (eq-eqb s s refl) (or_right _ _ (and_from _ _ (eq-eqb t t refl) h)))) (ascending_range 1 capacity)))

  owners_ascend : (s : ℕ) → pairwise (before s) (owners schema capacity db s) ≡ true
  owners_ascend s = by (is_system schema s) (owner_type schema s) where
    by : (b : Bool) (o : Option ℕ) → pairwise (before s) (cond b (System ∷ []) (unwrap_or (option_map (λ t. map Rec (live_keys capacity db t)) o) [])) ≡ true
    by true o = refl
    by false None = refl
    by false (Some t) = keys_ascend s t

  pub outer_ascend : pairwise name_below (outer_cells schema capacity db gone) ≡ true
  outer_ascend =
      ascending_join name_below extents rings extents_ascend
      (rings_ascend rings_of (set_numbers schema) (ascending_range 0 (length schema.sets))
      (λ s t c d i j h.
      let o = of_map (λ o. Ring s (place_of o)) c _ i in
      let p = of_map (λ o. Ring t (place_of o)) d _ j in
      subst (λ (x : CellName). name_below x d ≡ true) o.2 (subst (λ (y : CellName). name_below (Ring s (place_of o.0)) y ≡ true) p.2 (or_left _ _ h)))
      (λ s. pairwise_map (λ o. Ring s (place_of o)) name_below (before s) (filter (has_gone s) (owners schema capacity db s)) (λ o p h. h) (pairwise_filter (before s) (has_gone s) (owners schema capacity db s) (owners_ascend s))))
      (λ c i. all_in (name_below c) rings (λ d j.
      let t = of_map Extent c _ i in
      let s = of_flat_map rings_of d (set_numbers schema) j in
      let o = of_map (λ o. Ring s.0 (place_of o)) d _ s.2 in
      subst (λ (x : CellName). name_below x d ≡ true) t.2 (subst (λ (y : CellName). name_below (Extent t.0) y ≡ true) o.2 refl)))

  -- THE SAME NAMES

  module _ (legal : Legal schema capacity db) (hands : Hands) (live : (d : DbKey) → In d gone → is_live db d ≡ true)
      (owners_are : (d : DbKey) → In d gone → (s : ℕ) → In s (set_numbers schema) → owner_of schema capacity db s d ≡ owner_in hands s d) where
    named : (d : DbKey) (s : ℕ) (q : Option Owner) (o : Owner) → q ≡ Some o → In (Ring s (place_of o)) (ring_names s q)
    named d s q o e = subst (λ (r : Option Owner). In (Ring s (place_of o)) (ring_names s r)) (sym e) (inl refl)

    pub outer_named : (c : CellName) → In c (outer_cells schema capacity db gone) → In c (flat_map (outer_names schema hands) gone)
    outer_named c i = ⊎_elim
        (λ j.
        let t = of_map Extent c _ j in
        let d = any_element (λ x. eqb x.rtype t.0) gone (of_filter (λ t. list_any (λ d. eqb d.rtype t) gone) t.0 _ t.1).1 in
        in_flat_map (outer_names schema hands) d.0 c gone d.1 (inl (ap Extent (eqb-true d.0.rtype t.0 d.2) ∙ t.2)))
        (λ j.
        let s = of_flat_map rings_of c (set_numbers schema) j in
        let o = of_map (λ o. Ring s.0 (place_of o)) c _ s.2 in
        let d = any_element (λ d. is_member d (members_of db s.0 o.0)) gone (of_filter (has_gone s.0) o.0 (owners schema capacity db s.0) o.1).1 in
        in_flat_map (outer_names schema hands) d.0 c gone d.1
        (inr (in_flat_map (λ s. ring_names s (owner_in hands s d.0)) s.0 c (set_numbers schema) s.1
        (subst (λ (x : CellName). In x (ring_names s.0 (owner_in hands s.0 d.0))) o.2
        (named d.0 s.0 (owner_in hands s.0 d.0) o.0 (sym (owners_are d.0 d.1 s.0 s.1) ∙ owner_of_member schema capacity db legal s.0 o.0 d.0 d.2))))))
        (of_append c extents rings i)

    pub named_outer : (c : CellName) → In c (flat_map (outer_names schema hands) gone) → In c (outer_cells schema capacity db gone)
    named_outer c i = let d = of_flat_map (outer_names schema hands) c gone i in of_one d.0 d.1 d.2 where
      ring_of : (d : DbKey) → In d gone → (s : ℕ) → In s (set_numbers schema) → (q : Option Owner) → owner_in hands s d ≡ q → In c (ring_names s q) → In c rings
      ring_of d i s j None e m = absurd m
      ring_of d i s j (Some o) e m =
          let has = member_of_owner schema capacity db legal s o d (owners_are d i s j ∙ e) in
          ⊎_elim
          (λ same. subst (λ (x : CellName). In x rings) same
          (in_flat_map rings_of s (Ring s (place_of o)) (set_numbers schema) j
          (in_map (λ o. Ring s (place_of o)) o _ (in_filter (has_gone s) o (owners schema capacity db s) (among_owners schema capacity db legal s o (listed_has_occurrence schema capacity db legal s o d has))
          (any_in (λ d. is_member d (members_of db s o)) d gone i has)))))
          (λ never. absurd never) m

      of_one : (d : DbKey) → In d gone → In c (outer_names schema hands d) → In c (outer_cells schema capacity db gone)
      of_one d i (inl e) =
          let below = (legal.keys d (live d i)).0 in
          in_left c extents rings (subst (λ (x : CellName). In x extents) e
          (in_map Extent d.rtype _ (in_filter (λ t. list_any (λ x. eqb x.rtype t) gone) d.rtype (range_with_len 0 (length schema.types)) (in_range (length schema.types) 0 d.rtype (omega arith) (omega arith))
          (any_in (λ x. eqb x.rtype d.rtype) d gone i (eq-eqb d.rtype d.rtype refl)))))
      of_one d i (inr m) =
          let s = of_flat_map (λ s. ring_names s (owner_in hands s d)) c (set_numbers schema) m in
          in_right c extents rings (ring_of d i s.0 s.1 (owner_in hands s.0 d) refl s.2)
