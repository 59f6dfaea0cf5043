-- When a cell of a changed database is as it was.
use Rattle.std.proofs.Common.{◌≡◌, refl, sym, ◌∙◌, ap, ℕ, true, cond, List, [], ◌∷◌, Option, Some, None, map}
use Rattle.std.specs.Prelude.{is_some, option_map, unwrap_or, filter}
use Rattle.std.specs.List.{find, range_with_len}
use Rattle.std.proofs.lemmas.Bool.{or_left, or_right}
use Rattle.dbtg_schema.specs.Lists.{Lists}
use Rattle.dbtg_schema.specs.Structure.{is_system, owner_type, set_numbers}
use Rattle.dbtg_cells.specs.declared.key.DbKey.{DbKey}
use Rattle.dbtg_cells.specs.declared.key.Owner.{Owner}
use Rattle.dbtg_cells.specs.declared.key.Owner.TheVariants.{System, Rec}
use Rattle.dbtg_cells.specs.declared.name.CellName.TheVariants.{Usage, Extent, Ring, Slot}
use Rattle.dbtg_cells.specs.Shown.{UsageValue, ExtentValue, RingValue, SlotValue}
use Rattle.dbtg_cells.proofs.Public.{key_eq_refl}
use Rattle.dbtg_unit.specs.Database.State.Base.{Database, Record, is_live, key_at, live_keys, owners, owner_of, members_of, is_member, calc_items, sort_key}
use Rattle.dbtg_unit.specs.Database.State.Cells.{cell, ring_of, slot_of, owner_at}

-- functions that agree on the members of a list
pub map_agree : {X : Type 0} (f g : DbKey → X) (xs : List DbKey) → ((x : DbKey) → is_member x xs ≡ true → f x ≡ g x) → map f xs ≡ map g xs
map_agree f g [] h = refl
map_agree f g (x ∷ xs) h = λ i. h x (or_left _ _ (key_eq_refl x)) i ∷ map_agree f g xs (λ y e. h y (or_right _ _ e)) i

-- what an option has is mapped alike where the functions agree there
pub option_agree : {X Y : Type 0} (f g : X → Y) (o : Option X) → ((x : X) → o ≡ Some x → f x ≡ g x) → option_map f o ≡ option_map g o
option_agree f g None h = refl
option_agree f g (Some x) h = ap Some (h x refl)

module _ (schema : Lists) (capacity : ℕ) (db new : Database) where
  pub usage_same : (a : ℕ) → new.usage a ≡ db.usage a → cell schema capacity new (Usage a) ≡ cell schema capacity db (Usage a)
  unfolding cell
  usage_same a h = ap UsageValue h

  pub extent_same : (t : ℕ) → ((n : ℕ) → new.last t n ≡ db.last t n)
      → ((k : DbKey) → k.rtype ≡ t → option_map (λ (r : Record). calc_items schema t r.items) (new.records k) ≡ option_map (λ (r : Record). calc_items schema t r.items) (db.records k))
      → cell schema capacity new (Extent t) ≡ cell schema capacity db (Extent t)
  unfolding cell
  extent_same t last calc =
      λ i. ExtentValue (map (λ n. record { last = last n i; calc = number n i }) (range_with_len 1 capacity)) where
        number : (n : ℕ) → option_map (λ (r : Record). calc_items schema t r.items) (new.records (key_at new t n)) ≡ option_map (λ (r : Record). calc_items schema t r.items) (db.records (key_at db t n))
        number n = calc (key_at new t n) refl ∙ (λ i. option_map (λ (r : Record). calc_items schema t r.items) (db.records (record { rtype = t; number = n; generation = last n i })))

  pub ring_same : (s : ℕ) (q : Option (ℕ × ℕ)) → owner_at new q ≡ owner_at db q → new.lists s (owner_at db q) ≡ db.lists s (owner_at db q)
      → ((x : DbKey) → is_member x (members_of db s (owner_at db q)) ≡ true → sort_key schema new s x ≡ sort_key schema db s x)
      → cell schema capacity new (Ring s q) ≡ cell schema capacity db (Ring s q)
  unfolding cell
  ring_same s q owner list keys =
      ap RingValue
      ((λ i. option_map (ring_of schema new s (owner i)) (new.lists s (owner i)))
      ∙ ap (option_map (ring_of schema new s (owner_at db q))) list
      ∙ option_agree (ring_of schema new s (owner_at db q)) (ring_of schema db s (owner_at db q)) (db.lists s (owner_at db q))
      (λ xs e. λ i. record { owner = owner_at db q; members = map_agree (λ x. (x, sort_key schema new s x)) (λ x. (x, sort_key schema db s x)) xs (λ x m. λ j. (x, keys x (ap (λ (l : Option (List DbKey)). is_member x (unwrap_or l [])) e ∙ m) j)) i }))

  -- an occurrence that is in neither
  pub ring_none : (s : ℕ) (q : Option (ℕ × ℕ)) → new.lists s (owner_at new q) ≡ None → db.lists s (owner_at db q) ≡ None → cell schema capacity new (Ring s q) ≡ cell schema capacity db (Ring s q)
  unfolding cell
  ring_none s q h g = ap RingValue (ap (option_map (ring_of schema new s (owner_at new q))) h ∙ sym (ap (option_map (ring_of schema db s (owner_at db q))) g))

  pub slot_same : (t n : ℕ) → new.last t n ≡ db.last t n → new.records (key_at db t n) ≡ db.records (key_at db t n)
      → ((s : ℕ) → is_live db (key_at db t n) ≡ true → owner_of schema capacity new s (key_at db t n) ≡ owner_of schema capacity db s (key_at db t n))
      → cell schema capacity new (Slot t n) ≡ cell schema capacity db (Slot t n)
  unfolding cell
  slot_same t n last same owner =
      let k = key_at db t n in
      let e : key_at new t n ≡ k = λ i. record { rtype = t; number = n; generation = last i } in
      ap SlotValue
      ((λ i. option_map (slot_of schema capacity new (e i)) (new.records (e i)))
      ∙ ap (option_map (slot_of schema capacity new k)) same
      ∙ option_agree (slot_of schema capacity new k) (slot_of schema capacity db k) (db.records k)
      (λ r there. λ i. record { generation = k.generation; version = r.version; items = r.items; owners = map (λ s. owner s (ap is_some there) i) (set_numbers schema) }))

  -- WHERE THE SAME RECORDS ARE LIVE

  module _ (last : (t n : ℕ) → new.last t n ≡ db.last t n) (live : (x : DbKey) → is_live new x ≡ is_live db x) where
    same_key_at : (t n : ℕ) → key_at new t n ≡ key_at db t n
    same_key_at t n = λ i. record { rtype = t; number = n; generation = last t n i }

    same_live_keys : (t : ℕ) → live_keys capacity new t ≡ live_keys capacity db t
    same_live_keys t = λ i. filter (λ x. live x i) (map (λ n. same_key_at t n i) (range_with_len 1 capacity))

    pub same_owners : (s : ℕ) → owners schema capacity new s ≡ owners schema capacity db s
    same_owners s = λ i. cond (is_system schema s) (System ∷ []) (unwrap_or (option_map (λ t. map Rec (same_live_keys t i)) (owner_type schema s)) [])

    pub owner_of_same : (s : ℕ) (x : DbKey) → ((o : Owner) → is_member x (members_of new s o) ≡ is_member x (members_of db s o)) → owner_of schema capacity new s x ≡ owner_of schema capacity db s x
    owner_of_same s x same = λ i. find (λ o. same o i) (same_owners s i)

    pub owner_at_same : (q : Option (ℕ × ℕ)) → owner_at new q ≡ owner_at db q
    owner_at_same None = refl
    owner_at_same (Some p) = ap Rec (same_key_at p.0 p.1)
