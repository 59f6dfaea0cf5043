-- The areas and the owners of a sound schema.
use Rattle.std.proofs.Common.{◌≡◌, refl, sym, ◌∙◌, subst, ℕ, ◌<◌, true, false, List, length, Option, Some, None, eqb}
use Rattle.std.specs.Prelude.{is_some, option_map, option_and_then, slice_get, unwrap_or, IfSome}
use Rattle.std.specs.List.{list_any, find}
use Rattle.std.proofs.lemmas.Bool.{false≢true, false_from_ne_true, eqb-true}
use Rattle.dbtg_schema.specs.Lists.{Lists}
use Rattle.dbtg_schema.specs.Lookups.{some_and}
use Rattle.dbtg_schema.specs.Sound.{IsSound, IsSoundSet}
use Rattle.dbtg_schema.specs.Structure.{area_of, member_clause, owns}
use Rattle.dbtg_schema.specs.WellFormed.{IsRecordType, IsSetType}
use Rattle.dbtg_schema.specs.declared.shape.Member.{Member}
use Rattle.dbtg_schema.specs.declared.shape.RecordType.{RecordType}
use Rattle.dbtg_schema.specs.declared.shape.SetType.{SetType}
use Rattle.dbtg_schema.proofs.Public.{some_is}
use Rattle.dbtg_unit.proofs.Database.Records.SortKeysCompare.{all_at_entry}
use Rattle.dbtg_unit.proofs.Lists.Membership.{any_in, find_element}

-- where no member is of type t, no clause is found for t
no_clause : (members : List Member) (t : ℕ) → list_any (λ m. eqb m.rtype t) members ≡ false → is_some (find (λ m. eqb m.rtype t) members) ≡ false
no_clause members t none =
    false_from_ne_true _ (λ h.
    let found = some_is (find (λ m. eqb m.rtype t) members) h in
    let it = find_element (λ m. eqb m.rtype t) members found.0 found.1 in
    false≢true (sym none ∙ any_in (λ m. eqb m.rtype t) found.0 members it.0 it.1))

module _ (schema : Lists) (sound : IsSound schema) where
  area_within : (t : ℕ) (r : Option RecordType) → slice_get schema.types t ≡ r → unwrap_or (option_map (λ x. x.area) r) 0 < length schema.areas
  area_within t None is = sound.limits.some_area
  area_within t (Some r) is = (all_at_entry (IsRecordType schema) schema.types t r sound.limits.types is).area

  of_owner : (members : List Member) (t : ℕ) (owner : Option ℕ) → IfSome owner (λ o. list_any (λ m. eqb m.rtype o) members ≡ false) → some_and (λ o. eqb o t) owner ≡ true
      → is_some (find (λ m. eqb m.rtype t) members) ≡ false
  of_owner members t None no_member owns_t = absurd (false≢true owns_t)
  of_owner members t (Some o) no_member owns_t = no_clause members t (subst (λ u. list_any (λ m. eqb m.rtype u) members ≡ false) (eqb-true o t owns_t) no_member)

  of_set : (s t : ℕ) (o : Option SetType) → slice_get schema.sets s ≡ o → some_and (λ owner. eqb owner t) (option_and_then (λ set. set.owner) o) ≡ true
      → is_some (option_and_then (λ set. find (λ m. eqb m.rtype t) set.members) o) ≡ false
  of_set s t None is owns_t = absurd (false≢true owns_t)
  of_set s t (Some set) is owns_t = of_owner set.members t set.owner (all_at_entry (IsSoundSet schema) schema.sets s set sound.sets is).owner_is_no_member owns_t

  type_of_owner : (t : ℕ) (owner : Option ℕ) → IfSome owner (λ o. o < length schema.types) → some_and (λ o. eqb o t) owner ≡ true → t < length schema.types
  type_of_owner t None known owns_t = absurd (false≢true owns_t)
  type_of_owner t (Some o) known owns_t = subst (λ u. u < length schema.types) (eqb-true o t owns_t) known

  type_of_set : (s t : ℕ) (o : Option SetType) → slice_get schema.sets s ≡ o → some_and (λ owner. eqb owner t) (option_and_then (λ set. set.owner) o) ≡ true → t < length schema.types
  type_of_set s t None is owns_t = absurd (false≢true owns_t)
  type_of_set s t (Some set) is owns_t = type_of_owner t set.owner (all_at_entry (IsSetType schema) schema.sets s set sound.limits.sets is).owner owns_t

  -- the owner type of a set is a record type of the schema
  pub owner_is_type : (s t : ℕ) → owns schema s t ≡ true → t < length schema.types
  owner_is_type s t h = type_of_set s t (slice_get schema.sets s) refl h

  -- each record type lies in an area
  pub area_is_known : (t : ℕ) → area_of schema t < length schema.areas
  area_is_known t = area_within t (slice_get schema.types t) refl

  -- no record type is owner and member of one set
  pub owner_is_no_member : (s t : ℕ) → owns schema s t ≡ true → is_some (member_clause schema s t) ≡ false
  owner_is_no_member s t h = of_set s t (slice_get schema.sets s) refl h
