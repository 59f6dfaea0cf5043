-- Least sets by their elements; a DELETE stays in its areas.
use Rattle.std.proofs.Common.{◌≡◌, refl, sym, subst, ℕ, Bool, true, ◌&&◌, ◌||◌, List, [], ◌∷◌, length, Option, Some, None, arith, eqb, inl, inr, map}
use Rattle.std.specs.Prelude.{is_some, slice_get, option_and_then}
use Rattle.std.specs.List.{list_any, range_with_len}
use Rattle.std.proofs.lemmas.Bool.{and_parts, and_from, or_left, or_right, false≢true, eqb-true, eq-eqb}
use Rattle.dbtg_schema.specs.Lists.{Lists}
use Rattle.dbtg_schema.specs.Lookups.{flatten}
use Rattle.dbtg_schema.specs.Closure.{IsLeastClosed}
use Rattle.dbtg_schema.specs.Structure.{area_of, areas_with_homes, erase_areas, home, member_clause, owns, reachable_types, set_numbers}
use Rattle.dbtg_schema.proofs.Public.{least_closed_is_least}
use Rattle.dbtg_cells.specs.declared.key.DbKey.{DbKey}
use Rattle.dbtg_cells.specs.declared.key.Owner.TheVariants.{Rec}
use Rattle.dbtg_cells.specs.Keys.{key_eq}
use Rattle.dbtg_cells.proofs.Public.{index_within, key_eq_refl, same_key}
use Rattle.dbtg_unit.specs.declared.statement.Erase.{Erase}
use Rattle.dbtg_unit.specs.Database.State.Base.{Database, is_live, is_member, members_of}
use Rattle.dbtg_unit.specs.Database.Statements.Doomed.{all_keys, doomed, drags, takes}
use Rattle.dbtg_unit.specs.Database.State.Legal.{Legal}
use Rattle.dbtg_unit.specs.Database.Laws.Erased.{IsLeastSet, IsWithinAreas, has_member_type}
use Rattle.dbtg_unit.proofs.Database.Records.LiveKeys.{listed_has_occurrence}
use Rattle.dbtg_unit.proofs.Lists.Membership.{In, any_in, any_element, all_at, in_map, in_filter, in_left, in_right, of_filter, in_range}

module _ {X : Type 0} (same : X → X → Bool) (sound : (x y : X) → same x y ≡ true → x ≡ y) (self : (x : X) → same x x ≡ true) where
  element : (x : X) (xs : List X) → list_any (same x) xs ≡ true → In x xs
  element x xs h = let e = any_element (same x) xs h in subst (λ (z : X). In z xs) (sym (sound x e.0 e.2)) e.1

  -- a least closed set, by its elements
  pub least_set : (leads : X → X → Bool) (start : X → Bool) (xs ys : List X) → IsLeastClosed leads start xs ys → IsLeastSet same leads start xs ys
  least_set leads start xs ys h =
      let grows : (x : X) → In x xs → (start x || list_any (λ z. leads z x) ys) ≡ true → list_any (same x) ys ≡ true
      = λ x i g. any_in (same x) x ys (subst (In x) h.closed (in_filter (λ y. start y || list_any (λ z. leads z y) ys) x xs i g)) (self x) in
      record {
        within = λ x g. any_in (same x) x xs (of_filter (λ y. start y || list_any (λ z. leads z y) ys) x xs (subst (In x) (sym h.closed) (element x ys g))).0 (self x);
        starts = λ x i g. grows x (element x xs i) (or_left _ _ g);
        closed = λ x y g l i. grows y (element y xs i) (or_right _ _ (any_in (λ z. leads z y) x ys (element x ys g) l));
        least = λ p f g x i. all_at p x ys (h.least p f g) (element x ys i);
      }

pub doomed_is_least_set : (schema : Lists) (capacity : ℕ) (db : Database) (option : Erase) (k : DbKey) → IsLeastSet key_eq (drags schema capacity db option) (key_eq k) (all_keys schema capacity db) (doomed schema capacity db option k)
doomed_is_least_set schema capacity db option k =
    least_set key_eq same_key key_eq_refl (drags schema capacity db option) (key_eq k) (all_keys schema capacity db) (doomed schema capacity db option k)
    (least_closed_is_least (drags schema capacity db option) (key_eq k) (all_keys schema capacity db))

pub reachable_is_least : (schema : Lists) (t : ℕ) → IsLeastSet (λ u v. eqb u v) (has_member_type schema) (λ u. eqb u t) (range_with_len 0 (length schema.types)) (reachable_types schema t)
reachable_is_least schema t =
    least_set eqb eqb-true (λ u. eq-eqb u u refl) (has_member_type schema) (λ u. eqb u t) (range_with_len 0 (length schema.types)) (reachable_types schema t)
    (least_closed_is_least (has_member_type schema) (λ u. eqb u t) (range_with_len 0 (length schema.types)))

-- AREAS

-- an element of what one element gives is among what all give
pub in_flattened : {X Y : Type 0} (f : X → List Y) (x : X) (y : Y) (xs : List X) → In x xs → In y (f x) → In y (flatten (map f xs))
in_flattened f x y [] i j = absurd i
in_flattened {X} f x y (z ∷ xs) i j = elim i [
  | inl e ↦ in_left y (f z) (flatten (map f xs)) (subst (λ (w : X). In y (f w)) (sym e) j)
  | inr k ↦ in_right y (f z) (flatten (map f xs)) (in_flattened f x y xs k j)
]

-- a set with a member clause is a set of the schema
pub set_of_member : (schema : Lists) (s t : ℕ) → is_some (member_clause schema s t) ≡ true → In s (set_numbers schema)
set_of_member schema s t h = let below = index_within schema.sets s (of_chain _ (slice_get schema.sets s) h) in in_range (length schema.sets) 0 s (omega arith) (omega arith) where
  of_chain : {X Y : Type 0} (f : X → Option Y) (o : Option X) → is_some (option_and_then f o) ≡ true → is_some o ≡ true
  of_chain f None h = absurd (false≢true h)
  of_chain f (Some x) h = refl

module _ (schema : Lists) (capacity : ℕ) (db : Database) (legal : Legal schema capacity db) (option : Erase) (k : DbKey) (live : is_live db k ≡ true) where
  is_reached : ℕ → Bool
  is_reached t = list_any (eqb t) (reachable_types schema k.rtype)

  type_in : (x : DbKey) → is_live db x ≡ true → list_any (eqb x.rtype) (range_with_len 0 (length schema.types)) ≡ true
  type_in x h = let below = (legal.keys x h).0 in any_in (eqb x.rtype) x.rtype _ (in_range (length schema.types) 0 x.rtype (omega arith) (omega arith)) (eq-eqb x.rtype x.rtype refl)

  -- if a record's type is reached, so is that of a member of its lists
  next_reached : (s : ℕ) (x y : DbKey) → is_reached x.rtype ≡ true → is_member y (members_of db s (Rec x)) ≡ true → is_reached y.rtype ≡ true
  unfolding is_reached
  next_reached s x y h g =
      let facts = legal.members s (Rec x) y g in
      let owner = and_parts _ _ (listed_has_occurrence schema capacity db legal s (Rec x) y g) in
      (reachable_is_least schema k.rtype).closed x.rtype y.rtype h
      (any_in (λ s'. owns schema s' x.rtype && is_some (member_clause schema s' y.rtype)) s (set_numbers schema) (set_of_member schema s y.rtype facts.1) (and_from _ _ owner.0 facts.1))
      (type_in y facts.0)

  doomed_reached : (d : DbKey) → is_member d (doomed schema capacity db option k) ≡ true → is_reached d.rtype ≡ true
  unfolding is_reached
  doomed_reached d h =
      (doomed_is_least_set schema capacity db option k).least (λ x. is_reached x.rtype)
      (λ x e. subst (λ (y : DbKey). is_reached y.rtype ≡ true) (same_key k x e) ((reachable_is_least schema k.rtype).starts k.rtype (type_in k live) (eq-eqb k.rtype k.rtype refl)))
      (λ x y e g. let s = any_element (λ s. is_member y (members_of db s (Rec x)) && takes schema capacity db option s (Rec x) y) (set_numbers schema) g in next_reached s.0 x y e (and_parts _ _ s.2).0)
      d h

  reached_within : (x : DbKey) → is_reached x.rtype ≡ true → IsWithinAreas schema (erase_areas schema k.rtype) x
  unfolding is_reached
  reached_within x h =
      let e = any_element (eqb x.rtype) (reachable_types schema k.rtype) h in
      let reached : In x.rtype (reachable_types schema k.rtype) = subst (λ t. In t (reachable_types schema k.rtype)) (sym (eqb-true x.rtype e.0 e.2)) e.1 in
      let within : (a : ℕ) → In a (areas_with_homes schema x.rtype) → list_any (λ b. eqb b a) (erase_areas schema k.rtype) ≡ true
      = λ a i. any_in (λ b. eqb b a) a _ (in_flattened (areas_with_homes schema) x.rtype a _ reached i) (eq-eqb a a refl) in
      record {
        own = within (area_of schema x.rtype) (inl refl);
        homes = λ s member. within (home schema s) (inr (in_map (home schema) s _ (in_filter (λ s'. is_some (member_clause schema s' x.rtype)) s (set_numbers schema) (set_of_member schema s x.rtype member) member)));
      }

  pub delete_stays : (d : DbKey) → is_member d (doomed schema capacity db option k) ≡ true
      → IsWithinAreas schema (erase_areas schema k.rtype) d × ((s : ℕ) (m : DbKey) → is_member m (members_of db s (Rec d)) ≡ true → IsWithinAreas schema (erase_areas schema k.rtype) m)
  delete_stays d h = (reached_within d (doomed_reached d h), λ s m g. reached_within m (next_reached s d m (doomed_reached d h) g))
