-- Two databases whose records have the same items: what else they have in common.
use Rattle.std.proofs.Common.{◌≡◌, refl, sym, ◌∙◌, ap, ℕ, cond, List, [], ◌∷◌, Option, Some, None, map}
use Rattle.std.specs.Prelude.{is_some, option_map, unwrap_or, filter}
use Rattle.std.specs.List.{find, range_with_len}
use Rattle.dbtg_schema.specs.Lists.{Lists}
use Rattle.dbtg_schema.specs.Structure.{is_system, owner_type, set_numbers}
use Rattle.dbtg_cells.specs.declared.key.DbKey.{DbKey}
use Rattle.dbtg_cells.specs.declared.key.Owner.{Owner}
use Rattle.dbtg_cells.specs.declared.key.Owner.TheVariants.{System, Rec}
use Rattle.dbtg_cells.specs.declared.key.Value.{Value}
use Rattle.dbtg_cells.specs.declared.name.CellName.TheVariants.{Extent, Ring, Slot}
use Rattle.dbtg_cells.specs.Shown.{ExtentValue, RingValue, SlotValue}
use Rattle.dbtg_unit.specs.Database.State.Base.{Database, Record, is_live, items_of, key_at, live_keys, owners, members_of, is_member, owner_of, sort_key, key_item, calc_items}
use Rattle.dbtg_unit.specs.Database.State.Cells.{cell, slot_of, ring_of, owner_at}

-- the same numbers were used, and the same keys are live with the same items
pub record SameItems (db new : Database) : Type 0 where
  pub items : (x : DbKey) → option_map (λ (r : Record). r.items) (new.records x) ≡ option_map (λ (r : Record). r.items) (db.records x)
  pub last : (t n : ℕ) → new.last t n ≡ db.last t n

option_map_after : {X Y Z : Type 0} (f : X → Y) (g : Y → Z) (o : Option X) → option_map (λ x. g (f x)) o ≡ option_map g (option_map f o)
option_map_after f g None = refl
option_map_after f g (Some x) = refl

is_some_map : {X Y : Type 0} (f : X → Y) (o : Option X) → is_some o ≡ is_some (option_map f o)
is_some_map f None = refl
is_some_map f (Some x) = refl

module _ {db new : Database} (same : SameItems db new) where
  pub of_items_same : {Y : Type 0} (f : List Value → Y) (x : DbKey) → option_map (λ (r : Record). f r.items) (new.records x) ≡ option_map (λ (r : Record). f r.items) (db.records x)
  of_items_same f x =
      option_map_after (λ (r : Record). r.items) f (new.records x) ∙ ap (option_map f) (same.items x) ∙ sym (option_map_after (λ (r : Record). r.items) f (db.records x))

  pub is_live_same : (x : DbKey) → is_live new x ≡ is_live db x
  is_live_same x =
      is_some_map (λ (r : Record). r.items) (new.records x) ∙ ap is_some (same.items x) ∙ sym (is_some_map (λ (r : Record). r.items) (db.records x))

  pub items_of_same : (x : DbKey) → items_of new x ≡ items_of db x
  items_of_same x = ap (λ o. unwrap_or o []) (same.items x)

  pub key_at_same : (t n : ℕ) → key_at new t n ≡ key_at db t n
  key_at_same t n = λ i. record { rtype = t; number = n; generation = same.last t n i }

  pub owner_at_same : (q : Option (ℕ × ℕ)) → owner_at new q ≡ owner_at db q
  owner_at_same None = refl
  owner_at_same (Some p) = ap Rec (key_at_same p.0 p.1)

  pub sort_key_same : (schema : Lists) (s : ℕ) (x : DbKey) → sort_key schema new s x ≡ sort_key schema db s x
  sort_key_same schema s x = ap (key_item schema s x.rtype) (items_of_same x)

  pub live_keys_same : (capacity t : ℕ) → live_keys capacity new t ≡ live_keys capacity db t
  live_keys_same capacity t = λ i. filter (λ x. is_live_same x i) (map (λ n. key_at_same t n i) (range_with_len 1 capacity))

  pub owners_same : (schema : Lists) (capacity s : ℕ) → owners schema capacity new s ≡ owners schema capacity db s
  owners_same schema capacity s =
      λ i. cond (is_system schema s) (System ∷ []) (unwrap_or (option_map (λ t. map Rec (live_keys_same capacity t i)) (owner_type schema s)) [])

  -- an extent is as it was
  pub extent_same : (schema : Lists) (capacity t : ℕ) → cell schema capacity new (Extent t) ≡ cell schema capacity db (Extent t)
  unfolding cell
  extent_same schema capacity t =
      ap ExtentValue (λ i. map (λ n. record { last = same.last t n i; calc = (calc_same n) i }) (range_with_len 1 capacity)) where
        calc_same : (n : ℕ) → option_map (λ (r : Record). calc_items schema t r.items) (new.records (key_at new t n)) ≡ option_map (λ (r : Record). calc_items schema t r.items) (db.records (key_at db t n))
        calc_same n = of_items_same (calc_items schema t) (key_at new t n) ∙ ap (λ x. option_map (λ (r : Record). calc_items schema t r.items) (db.records x)) (key_at_same t n)

  -- a ring whose list is as it was
  pub ring_same : (schema : Lists) (capacity s : ℕ) (q : Option (ℕ × ℕ)) → new.lists s (owner_at db q) ≡ db.lists s (owner_at db q) → cell schema capacity new (Ring s q) ≡ cell schema capacity db (Ring s q)
  unfolding cell
  ring_same schema capacity s q list =
      (λ i. RingValue (option_map (ring_of schema new s (owner_at_same q i)) (new.lists s (owner_at_same q i))))
      ∙ (λ i. RingValue (option_map (λ members. record { owner = owner_at db q; members = map (λ x. (x, sort_key_same schema s x i)) members }) (list i)))

  -- the owners of a record that is in the same lists
  pub owner_of_same : (schema : Lists) (capacity s : ℕ) (x : DbKey) → ((o : Owner) → is_member x (members_of new s o) ≡ is_member x (members_of db s o)) → owner_of schema capacity new s x ≡ owner_of schema capacity db s x
  owner_of_same schema capacity s x member = λ i. find (λ o. member o i) (owners_same schema capacity s i)

  -- the slot of a record that stays as it was, in the same lists
  pub slot_same : (schema : Lists) (capacity t n : ℕ) → new.records (key_at db t n) ≡ db.records (key_at db t n)
      → ((s : ℕ) (o : Owner) → is_member (key_at db t n) (members_of new s o) ≡ is_member (key_at db t n) (members_of db s o))
      → cell schema capacity new (Slot t n) ≡ cell schema capacity db (Slot t n)
  unfolding cell
  slot_same schema capacity t n stays member =
      (λ i. SlotValue (option_map (slot_of schema capacity new (key_at_same t n i)) (new.records (key_at_same t n i))))
      ∙ (λ i. SlotValue (option_map (λ r. record { generation = db.last t n; version = r.version; items = r.items; owners = map (λ s. owner_of_same schema capacity s (key_at db t n) (member s) i) (set_numbers schema) }) (stays i)))
