-- Each cell of a DELETE lies in one of its areas.
use Rattle.std.proofs.Common.{◌≡◌, refl, sym, subst, ℕ, zero, suc, ◌<◌, Bool, true, eqb, ◌&&◌, List, [], ◌∷◌, ◌++◌, length, map, Option, Some, None, inl, inr, arith}
use Rattle.std.specs.Prelude.{filter, is_some, nat_lt, slice_get, ◌==◌}
use Rattle.std.specs.List.{list_any, list_all, range_with_len, flat_map}
use Rattle.std.proofs.lemmas.Bool.{and_parts, and_from, cond_both, eqb-true, eq-eqb}
use Rattle.dbtg_schema.specs.Lists.{Lists}
use Rattle.dbtg_schema.specs.Lookups.{first_cause}
use Rattle.dbtg_schema.specs.Structure.{area_of, areas_with_homes, erase_areas, home, member_clause, owns, reachable_types, set_numbers}
use Rattle.dbtg_cells.specs.declared.key.DbKey.{DbKey}
use Rattle.dbtg_cells.specs.declared.key.Owner.TheVariants.{Rec}
use Rattle.dbtg_cells.specs.declared.name.CellName.{CellName}
use Rattle.dbtg_cells.specs.declared.name.CellName.TheVariants.{Extent, Ring}
use Rattle.dbtg_cells.specs.Names.{name_eq}
use Rattle.dbtg_unit.specs.Database.Statements.StoredFacts.{whole}
use Rattle.dbtg_unit.specs.declared.statement.Erase.{Erase}
use Rattle.dbtg_unit.specs.declared.unit.Unit.{Unit}
use Rattle.dbtg_unit.specs.Database.State.Base.{Database, is_member, members_of}
use Rattle.dbtg_unit.specs.Database.State.CellNames.{slot_name, place_of}
use Rattle.dbtg_unit.specs.Database.Statements.Doomed.{all_keys, takes}
use Rattle.dbtg_unit.specs.Database.Statements.Effect.{own_checks, is_plain, has_members}
use Rattle.dbtg_unit.specs.Hands.Erasing.{brought, brought_from, cells_of_doomed, delete_cells, doomed_in_turn, names_once, outer_cells, own_rings, rings_to_member, taken_with}
use Rattle.dbtg_unit.specs.Database.State.Legal.{Legal}
use Rattle.dbtg_unit.proofs.Database.Laws.LeastSets.{in_flattened, reachable_is_least, set_of_member}
use Rattle.dbtg_unit.proofs.Database.Records.LiveKeys.{in_member, listed_has_occurrence}
use Rattle.dbtg_unit.proofs.Hands.Taking.AreasOfCells.{all_flat, all_join, home_owned, is_among, lies_in}
use Rattle.dbtg_unit.proofs.Hands.Untouched.InTurn.{element_at, with_those_pass}
use Rattle.dbtg_unit.proofs.Lists.Agreeing.{all_in}
use Rattle.dbtg_unit.proofs.Lists.Membership.{In, all_at, any_element, any_in, in_filter, in_map, in_range, of_filter, of_flat_map, of_map}

pub brought_all : (p : DbKey → Bool) (taken : DbKey → List DbKey) → ((d : DbKey) → p d ≡ true → list_all p (taken d) ≡ true) → (n i : ℕ) (order : List DbKey) → list_all p order ≡ true → list_all p (brought taken n i order) ≡ true
brought_all p taken t zero i order h = h
brought_all p taken t (suc n) i order h = brought_all p taken t n (suc i) (brought_from taken order (slice_get order i)) (from (slice_get order i) refl)
  where
    from : (o : Option DbKey) → slice_get order i ≡ o → list_all p (brought_from taken order o) ≡ true
    from None e = h
    from (Some d) e = with_those_pass p order _ h (t d (all_at p d order h (element_at order i d e)))

pub once_all : (p : CellName → Bool) (met cs : List CellName) → list_all p cs ≡ true → list_all p (names_once met cs) ≡ true
once_all p met [] h = refl
once_all p met (c ∷ cs) h = let hs = and_parts _ _ h in cond_both (list_any (name_eq c) met) _ _ (λ ds. list_all p ds ≡ true) (λ e. once_all p met cs hs.1) (λ e. and_from _ _ hs.0 (once_all p (c ∷ met) cs hs.1))

module _ (schema : Lists) (capacity : ℕ) (db : Database) (legal : Legal schema capacity db) (root : ℕ) (known : root < length schema.types) where
  abbrev areas : List ℕ
  areas = erase_areas schema root

  -- record type t can be reached from the root
  abbrev reached : ℕ → Bool
  reached t = list_any (eqb t) (reachable_types schema root)

  abbrev reached_key : DbKey → Bool
  reached_key k = reached k.rtype

  type_in : (t : ℕ) → t < length schema.types → list_any (eqb t) (range_with_len 0 (length schema.types)) ≡ true
  type_in t h = any_in (eqb t) t _ (in_range (length schema.types) 0 t (omega arith) (omega arith)) (eq-eqb t t refl)

  pub root_reached : reached root ≡ true
  root_reached = (reachable_is_least schema root).starts root (type_in root known) (eq-eqb root root refl)

  -- if an owner's type is reached, so are those of its members
  members_reached : (s : ℕ) (d m : DbKey) → reached d.rtype ≡ true → In m (members_of db s (Rec d)) → reached m.rtype ≡ true
  members_reached s d m h i =
      let member = in_member m _ i in
      let facts = legal.members s (Rec d) m member in
      let owner = and_parts _ _ (listed_has_occurrence schema capacity db legal s (Rec d) m member) in
      (reachable_is_least schema root).closed d.rtype m.rtype h
      (any_in (λ s'. owns schema s' d.rtype && is_some (member_clause schema s' m.rtype)) s (set_numbers schema) (set_of_member schema s m.rtype facts.1) (and_from _ _ owner.0 facts.1))
      (type_in m.rtype (legal.keys m facts.0).0)

  within : (t a : ℕ) → reached t ≡ true → In a (areas_with_homes schema t) → is_among areas a ≡ true
  within t a h i =
      let e = any_element (eqb t) (reachable_types schema root) h in
      let at : In t (reachable_types schema root) = subst (λ u. In u (reachable_types schema root)) (sym (eqb-true t e.0 e.2)) e.1 in
      any_in (λ b. eqb b a) a areas (in_flattened (areas_with_homes schema) t a _ at i) (eq-eqb a a refl)

  type_lies : (t : ℕ) → reached t ≡ true → is_among areas (area_of schema t) ≡ true
  type_lies t h = within t (area_of schema t) h (inl refl)

  home_lies : (s t : ℕ) → reached t ≡ true → is_some (member_clause schema s t) ≡ true → is_among areas (home schema s) ≡ true
  home_lies s t h m = within t (home schema s) h (inr (in_map (home schema) s _ (in_filter (λ s'. is_some (member_clause schema s' t)) s (set_numbers schema) (set_of_member schema s t m) m)))

  own_ring_lies : (s : ℕ) (k : DbKey) → reached k.rtype ≡ true → owns schema s k.rtype ≡ true → is_among areas (home schema s) ≡ true
  own_ring_lies s k h o = subst (λ a. is_among areas a ≡ true) (sym (home_owned schema s k.rtype o)) (type_lies k.rtype h)

  -- THE DOOMED ARE REACHED

  taken_reached : (option : Erase) (d : DbKey) → reached d.rtype ≡ true → list_all reached_key (taken_with schema capacity db option d) ≡ true
  taken_reached option d h = all_flat reached_key _ (set_numbers schema) (λ s i. all_in reached_key _ (λ m j. members_reached s d m h (of_filter (takes schema capacity db option s (Rec d)) m _ j).0))

  -- THE CELLS

  rings_lie : (k : DbKey) → reached k.rtype ≡ true → list_all (lies_in schema areas) (own_rings schema k) ≡ true
  rings_lie k h = all_in (lies_in schema areas) _ (λ c i.
      let m = of_map _ c _ i in
      subst (λ d. lies_in schema areas d ≡ true) m.2 (own_ring_lies m.0 k h (of_filter (λ s. owns schema s k.rtype) m.0 _ m.1).1))

  to_member_lie : (k : DbKey) → reached k.rtype ≡ true → (sets : List ℕ) → list_all (λ s. owns schema s k.rtype) sets ≡ true → list_all (lies_in schema areas) (rings_to_member schema db k sets) ≡ true
  to_member_lie k h [] g = refl
  to_member_lie k h (s ∷ sets) g =
      let gs = and_parts _ _ g in
      and_from _ _ (own_ring_lies s k h gs.0) (cond_both (nat_lt 0 (length (members_of db s (Rec k)))) _ _ (λ cs. list_all (lies_in schema areas) cs ≡ true) (λ e. refl) (λ e. to_member_lie k h sets gs.1))

  doomed_lie : (d : DbKey) → reached d.rtype ≡ true → list_all (lies_in schema areas) (cells_of_doomed schema db d) ≡ true
  doomed_lie d h =
      and_from _ _ (type_lies d.rtype h)
      (all_join (lies_in schema areas) (own_rings schema d) _ (rings_lie d h)
      (all_in (lies_in schema areas) _ (λ c i.
      let m = of_map slot_name c _ i in
      let s = of_flat_map (λ s. members_of db s (Rec d)) m.0 (set_numbers schema) m.1 in
      subst (λ e. lies_in schema areas e ≡ true) m.2 (type_lies m.0.rtype (members_reached s.0 d m.0 h s.2)))))

  outer_lie : (gone : List DbKey) → list_all reached_key gone ≡ true → list_all (lies_in schema areas) (outer_cells schema capacity db gone) ≡ true
  outer_lie gone h =
      all_join (lies_in schema areas) (map Extent (filter (λ t. list_any (λ d. d.rtype == t) gone) (range_with_len 0 (length schema.types)))) _
      (all_in (lies_in schema areas) _ (λ c i.
      let m = of_map Extent c _ i in
      let d = any_element (λ (x : DbKey). x.rtype == m.0) gone (of_filter (λ t. list_any (λ d. d.rtype == t) gone) m.0 _ m.1).1 in
      subst (λ e. lies_in schema areas e ≡ true) m.2 (subst (λ t. is_among areas (area_of schema t) ≡ true) (eqb-true _ _ d.2) (type_lies d.0.rtype (all_at reached_key d.0 gone h d.1)))))
      (all_flat (lies_in schema areas) _ (set_numbers schema) (λ s j. all_in (lies_in schema areas) _ (λ c i.
      let m = of_map (λ o. Ring s (place_of o)) c _ i in
      let d = any_element (λ (x : DbKey). is_member x (members_of db s m.0)) gone (of_filter (λ o. list_any (λ d. is_member d (members_of db s o)) gone) m.0 _ m.1).1 in
      subst (λ e. lies_in schema areas e ≡ true) m.2 (home_lies s d.0.rtype (all_at reached_key d.0 gone h d.1) (legal.members s m.0 d.0 d.2).1))))

  pub delete_cells_lie : (unit : Unit) (option : Erase) (k : DbKey) → k.rtype ≡ root → list_all (lies_in schema areas) (delete_cells schema capacity db unit option k) ≡ true
  delete_cells_lie unit option k e =
      cond_both (is_some (first_cause (own_checks (whole schema capacity db) unit k))) _ _ (λ cs. list_all (lies_in schema areas) cs ≡ true) (λ f. slot_lies)
      (λ f. cond_both (is_plain option && has_members schema (whole schema capacity db) k) _ _ (λ cs. list_all (lies_in schema areas) cs ≡ true)
      (λ g. and_from _ _ slot_here (to_member_lie k here _ (all_in (λ s. owns schema s k.rtype) _ (λ s i. (of_filter (λ s. owns schema s k.rtype) s _ i).1))))
      (λ g. once_all (lies_in schema areas) [] (slot_name k ∷ own_rings schema k ++ flat_map (cells_of_doomed schema db) gone ++ outer_cells schema capacity db gone) all_lie))
    where
      here : reached k.rtype ≡ true
      here = subst (λ t. reached t ≡ true) (sym e) root_reached

      slot_here : lies_in schema areas (slot_name k) ≡ true
      slot_here = type_lies k.rtype here

      slot_lies : list_all (lies_in schema areas) (slot_name k ∷ []) ≡ true
      slot_lies = and_from _ _ slot_here refl

      gone : List DbKey
      gone = doomed_in_turn schema capacity db option k

      gone_reached : list_all reached_key gone ≡ true
      gone_reached = brought_all reached_key (taken_with schema capacity db option) (taken_reached option) (length (all_keys schema capacity db)) 0 (k ∷ []) (and_from _ _ here refl)

      all_lie : list_all (lies_in schema areas) (slot_name k ∷ own_rings schema k ++ flat_map (cells_of_doomed schema db) gone ++ outer_cells schema capacity db gone) ≡ true
      all_lie =
          all_join (lies_in schema areas) (slot_name k ∷ own_rings schema k ++ flat_map (cells_of_doomed schema db) gone) _
          (all_join (lies_in schema areas) (slot_name k ∷ own_rings schema k) _ (and_from _ _ slot_here (rings_lie k here))
          (all_flat (lies_in schema areas) (cells_of_doomed schema db) gone (λ d i. doomed_lie d (all_at reached_key d gone gone_reached i))))
          (outer_lie gone gone_reached)
