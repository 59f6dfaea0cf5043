-- When a unit belongs to a schema, and the name of a cell that a schema has.
-- k is a key, s a set, o an owner, t a record type, a an area, n a number, c a cell.
use Rattle.std.specs.Prelude.{◌≡◌, ℕ, Bool, true, ◌&&◌, ◌==◌, nat_lt, nat_le, length}
use Rattle.std.specs.List.{list_all}
use Rattle.dbtg_schema.specs.Lists.{Lists}
use Rattle.dbtg_schema.specs.Lookups.{at}
use Rattle.dbtg_schema.specs.Structure.{is_system, owns}
use Rattle.dbtg_cells.specs.declared.key.DbKey.{DbKey}
use Rattle.dbtg_cells.specs.declared.key.Owner.{Owner}
use Rattle.dbtg_cells.specs.declared.key.Owner.TheVariants.{System, Rec}
use Rattle.dbtg_cells.specs.Keys.{key_below}
use Rattle.dbtg_unit.specs.declared.unit.Place.{Place}
use Rattle.dbtg_unit.specs.declared.unit.Unit.{Unit}
use Rattle.dbtg_unit.specs.Database.Statements.Fits.{if_named, is_type}
use Rattle.dbtg_unit.specs.Database.State.Legal.{pairwise}

-- a key of a record type of the schema
abbrev pub is_key_of : Lists → DbKey → Bool
is_key_of schema k = is_type schema k.rtype

-- an owner that set s can have: SYSTEM, or a key of its owner type
abbrev pub is_owner_in : Lists → ℕ → Owner → Bool
is_owner_in schema s System = is_system schema s
is_owner_in schema s (Rec k) = owns schema s k.rtype

-- a place that a unit can have in set s
abbrev pub is_place_in : Lists → ℕ → Place → Bool
is_place_in schema s place = is_owner_in schema s place.owner && if_named (is_key_of schema) place.at

-- a unit of the schema: an entry for each record type, area and set, each of what the schema has
pub record IsUnitOf (schema : Lists) (unit : Unit) : Type 0 where
  pub every_type : length unit.currency.types ≡ length schema.types
  pub every_area : length unit.currency.areas ≡ length schema.areas
  pub every_set : length unit.currency.sets ≡ length schema.sets
  pub every_mode : length unit.modes ≡ length schema.areas
  pub run_unit : if_named (is_key_of schema) unit.currency.run_unit ≡ true
  -- the current of a record type is of that type
  pub of_types : (t : ℕ) → if_named (λ k. k.rtype == t) (at unit.currency.types t) ≡ true
  pub of_areas : (a : ℕ) → if_named (is_key_of schema) (at unit.currency.areas a) ≡ true
  pub of_sets : (s : ℕ) → if_named (is_place_in schema s) (at unit.currency.sets s) ≡ true
  -- the kept list is in key order, no key twice
  pub kept_keys : list_all (λ e. is_key_of schema e.0) unit.kept ≡ true
  pub kept_order : pairwise (λ e f. key_below e.0 f.0) unit.kept ≡ true

-- a number from 1 to the capacity
abbrev pub is_number : ℕ → ℕ → Bool
is_number capacity n = nat_lt 0 n && nat_le n capacity

-- the owner's number, if the owner is a record, is from 1 to the capacity
abbrev pub owner_within : ℕ → Owner → Bool
owner_within capacity System = true
owner_within capacity (Rec k) = is_number capacity k.number

-- every current of the unit has a number from 1 to the capacity, so that it has a slot
pub record IsWithin (capacity : ℕ) (unit : Unit) : Type 0 where
  pub run_unit : if_named (λ k. is_number capacity k.number) unit.currency.run_unit ≡ true
  pub types : (t : ℕ) → if_named (λ k. is_number capacity k.number) (at unit.currency.types t) ≡ true
  pub areas : (a : ℕ) → if_named (λ k. is_number capacity k.number) (at unit.currency.areas a) ≡ true
  pub sets : (s : ℕ) → if_named (λ place. owner_within capacity place.owner && if_named (λ k. is_number capacity k.number) place.at) (at unit.currency.sets s) ≡ true
  pub kept : list_all (λ e. is_number capacity e.0.number) unit.kept ≡ true
