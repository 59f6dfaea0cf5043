-- Live keys, owners, and whose list has a record.
use Rattle.std.proofs.Common.{◌≡◌, refl, sym, ◌∙◌, ap, subst, ℕ, ◌<◌, ◌≤◌, true, false, cond, List, [], ◌∷◌, length, Option, Some, None, arith, eqb, inl, map}
use Rattle.std.specs.Prelude.{is_some, is_none, option_map, option_and_then, unwrap_or, slice_get}
use Rattle.std.specs.List.{range_with_len}
use Rattle.std.proofs.lemmas.Bool.{and_parts, false≢true, eqb-true, false_from_ne_true}
use Rattle.std.proofs.lemmas.Option.{none-some}
use Rattle.dbtg_schema.specs.Lists.{Lists}
use Rattle.dbtg_schema.specs.Lookups.{some_and}
use Rattle.dbtg_schema.specs.declared.shape.SetType.{SetType}
use Rattle.dbtg_schema.specs.Structure.{owner_type}
use Rattle.dbtg_cells.specs.declared.key.DbKey.{DbKey}
use Rattle.dbtg_cells.specs.declared.key.Owner.{Owner}
use Rattle.dbtg_cells.specs.declared.key.Owner.TheVariants.{System, Rec}
use Rattle.dbtg_cells.specs.Keys.{key_eq}
use Rattle.dbtg_cells.proofs.Public.{key_eq_refl, same_key}
use Rattle.dbtg_unit.specs.Database.State.Base.{Database, is_live, key_at, live_keys, owners, owner_of, members_of, is_member}
use Rattle.dbtg_unit.specs.Database.Statements.Doomed.{all_keys}
use Rattle.dbtg_unit.specs.Database.State.Legal.{Legal, has_occurrence}
use Rattle.dbtg_unit.proofs.Lists.Membership.{In, any_element, any_in, find_element, find_none, find_only, in_filter, in_flat_map, in_map, in_range, of_filter, of_flat_map, of_map, some_and_value}

-- KEYS

pub in_member : (k : DbKey) (ks : List DbKey) → In k ks → is_member k ks ≡ true
in_member k ks i = any_in (key_eq k) k ks i (key_eq_refl k)

pub member_in : (k : DbKey) (ks : List DbKey) → is_member k ks ≡ true → In k ks
member_in k ks h = let e = any_element (key_eq k) ks h in subst (λ (x : DbKey). In x ks) (sym (same_key k e.0 e.2)) e.1

module _ (schema : Lists) (capacity : ℕ) (db : Database) (legal : Legal schema capacity db) where
  -- a live key is its number's latest
  pub live_is_latest : (k : DbKey) → is_live db k ≡ true → key_at db k.rtype k.number ≡ k
  live_is_latest k h = λ i. record { rtype = k.rtype; number = k.number; generation = sym (legal.keys k h).4 i }

  pub live_in : (k : DbKey) → is_live db k ≡ true → In k (live_keys capacity db k.rtype)
  live_in k h =
      let facts = legal.keys k h in
      in_filter (is_live db) k _ (subst (λ (x : DbKey). In x (map (key_at db k.rtype) (range_with_len 1 capacity))) (live_is_latest k h) (in_map (key_at db k.rtype) k.number _ (number_in k.number facts.1 facts.2))) h where
        number_in : (n : ℕ) → 0 < n → n ≤ capacity → In n (range_with_len 1 capacity)
        number_in n low high = in_range capacity 1 n (omega arith) (omega arith)

  pub of_live_keys : (k : DbKey) (t : ℕ) → In k (live_keys capacity db t) → (is_live db k ≡ true) × (k.rtype ≡ t)
  of_live_keys k t i =
      let kept = of_filter (is_live db) k _ i in
      let made = of_map (key_at db t) k _ kept.0 in
      (kept.1, ap (λ (x : DbKey). x.rtype) (sym made.2))

  pub live_in_all : (k : DbKey) → is_live db k ≡ true → In k (all_keys schema capacity db)
  live_in_all k h = in_flat_map (live_keys capacity db) k.rtype k _ (type_in k.rtype (legal.keys k h).0) (live_in k h) where
    type_in : (t : ℕ) → t < length schema.types → In t (range_with_len 0 (length schema.types))
    type_in t below = in_range (length schema.types) 0 t (omega arith) (omega arith)

  pub all_are_live : (k : DbKey) → In k (all_keys schema capacity db) → is_live db k ≡ true
  all_are_live k i = let r = of_flat_map (live_keys capacity db) k _ i in (of_live_keys k r.0 r.2).0

  -- an owner with an occurrence of a set is among the set's owners
  pub owner_in : (s : ℕ) (o : Owner) → has_occurrence schema db s o ≡ true → In o (owners schema capacity db s)
  owner_in s System h = subst (λ b. In System (cond b (System ∷ []) (unwrap_or (option_map (λ t. map Rec (live_keys capacity db t)) (owner_type schema s)) []))) (sym h) (inl refl)
  owner_in s (Rec k) h =
      let parts = and_parts _ _ h in
      let set = some_and_value (λ owner. eqb owner k.rtype) (owner_type schema s) parts.0 in
      let same = eqb-true set.0 k.rtype set.2 in
      let is_not_system = system_or_owned (slice_get schema.sets s) set.0 set.1 in
      subst (λ b. In (Rec k) (cond b (System ∷ []) (unwrap_or (option_map (λ t. map Rec (live_keys capacity db t)) (owner_type schema s)) []))) (sym is_not_system)
      (subst (λ (o : Option ℕ). In (Rec k) (unwrap_or (option_map (λ t. map Rec (live_keys capacity db t)) o) [])) (sym (set.1 ∙ ap Some same)) (in_map Rec k _ (live_in k parts.1))) where
        system_or_owned : (set : Option SetType) (t : ℕ) → option_and_then (λ (x : SetType). x.owner) set ≡ Some t → some_and (λ (x : SetType). is_none x.owner) set ≡ false
        system_or_owned None t h = refl
        system_or_owned (Some x) t h = ap is_none h

  -- the owner whose list has a record
  pub listed_has_occurrence : (s : ℕ) (o : Owner) (k : DbKey) → is_member k (members_of db s o) ≡ true → has_occurrence schema db s o ≡ true
  listed_has_occurrence s o k h = sym (legal.pairs s o) ∙ has_list (db.lists s o) h where
    has_list : (l : Option (List DbKey)) → is_member k (unwrap_or l []) ≡ true → is_some l ≡ true
    has_list None h = absurd (false≢true h)
    has_list (Some list) h = refl

  pub owner_of_member : (s : ℕ) (o : Owner) (k : DbKey) → is_member k (members_of db s o) ≡ true → owner_of schema capacity db s k ≡ Some o
  owner_of_member s o k h = find_only (λ p. is_member k (members_of db s p)) (owners schema capacity db s) o (owner_in s o (listed_has_occurrence s o k h)) h (λ p g. legal.in_one s p o k g h)

  pub unlisted_has_no_owner : (s : ℕ) (k : DbKey) → ((o : Owner) → is_member k (members_of db s o) ≡ true → ⊥) → owner_of schema capacity db s k ≡ None
  unlisted_has_no_owner s k h = find_none (λ p. is_member k (members_of db s p)) (owners schema capacity db s) h

  pub member_of_owner : (s : ℕ) (o : Owner) (k : DbKey) → owner_of schema capacity db s k ≡ Some o → is_member k (members_of db s o) ≡ true
  member_of_owner s o k h = (find_element (λ p. is_member k (members_of db s p)) (owners schema capacity db s) o h).1

  pub member_nowhere : (s : ℕ) (k : DbKey) → owner_of schema capacity db s k ≡ None → (o : Owner) → is_member k (members_of db s o) ≡ false
  member_nowhere s k h o = false_from_ne_true _ (λ g. absurd (none-some o (sym h ∙ owner_of_member s o k g)))
