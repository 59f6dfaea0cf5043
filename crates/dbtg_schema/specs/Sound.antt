-- How the parts of a schema that was read fit together, beyond the limits and ranges that its type guarantees.
use Rattle.std.specs.Prelude.{◌≡◌, true, false, ◌==◌, ◌++◌, map, is_some, IfSome}
use Rattle.std.specs.List.{list_any, All}
use Rattle.std.specs.Str.{bytes_eq}
use Rattle.dbtg_schema.specs.Lists.{Lists}
use Rattle.dbtg_schema.specs.WellFormed.{IsSchema, distinct, is_sorted, key_picture_of, same_number}
use Rattle.dbtg_schema.specs.declared.shape.RecordType.{RecordType}
use Rattle.dbtg_schema.specs.declared.shape.SetType.{SetType}

-- item names and CALC items that differ
pub record IsSoundType (r : RecordType) : Type 0 where
  pub item_names : distinct bytes_eq (map (λ i. i.name) r.items) ≡ true
  pub calc_once : IfSome r.calc (λ c. distinct same_number c.items ≡ true)

-- an owner that is not a member, members that differ, and keys exactly in a sorted set, all with the same picture
pub record IsSoundSet (schema : Lists) (set : SetType) : Type 0 where
  pub members_once : distinct same_number (map (λ m. m.rtype) set.members) ≡ true
  pub owner_is_no_member : IfSome set.owner (λ o. list_any (λ m. m.rtype == o) set.members ≡ false)
  pub keys : All (λ m. is_some m.key ≡ is_sorted set.order) set.members
  pub key_pictures : All (λ m. All (λ n. key_picture_of schema m ≡ key_picture_of schema n) set.members) set.members

-- a schema within the limits whose parts fit together; areas, record types and sets have names of their own
pub record IsSound (schema : Lists) : Type 0 where
  pub limits : IsSchema schema
  pub types : All IsSoundType schema.types
  pub sets : All (IsSoundSet schema) schema.sets
  pub names : distinct bytes_eq (map (λ a. a.name) schema.areas ++ map (λ r. r.name) schema.types ++ map (λ s. s.name) schema.sets) ≡ true
