-- What a DELETE takes, and in which areas it works.
use Rattle.std.specs.Prelude.{◌≡◌, ℕ, Bool, true, ◌&&◌, ◌==◌, List, is_some, length}
use Rattle.std.specs.List.{list_any, range_with_len}
use Rattle.dbtg_schema.specs.Lists.{Lists}
use Rattle.dbtg_schema.specs.Structure.{area_of, erase_areas, home, member_clause, owns, reachable_types, set_numbers}
use Rattle.dbtg_cells.specs.declared.key.DbKey.{DbKey}
use Rattle.dbtg_cells.specs.declared.key.Owner.TheVariants.{Rec}
use Rattle.dbtg_cells.specs.Keys.{key_eq}
use Rattle.dbtg_unit.specs.declared.statement.Erase.{Erase}
use Rattle.dbtg_unit.specs.Database.State.Base.{Database, is_live, is_member, members_of}
use Rattle.dbtg_unit.specs.Database.Statements.Doomed.{all_keys, doomed, drags}
use Rattle.dbtg_unit.specs.Database.State.Legal.{Legal}

-- among xs, ys has each start and, with each x in it, each y to which x leads; and each set that does so has all of ys
pub record IsLeastSet {X : Type 0} (same : X → X → Bool) (leads : X → X → Bool) (start : X → Bool) (xs ys : List X) : Type 0 where
  pub within : (x : X) → list_any (same x) ys ≡ true → list_any (same x) xs ≡ true
  pub starts : (x : X) → list_any (same x) xs ≡ true → start x ≡ true → list_any (same x) ys ≡ true
  pub closed : (x y : X) → list_any (same x) ys ≡ true → leads x y ≡ true → list_any (same y) xs ≡ true → list_any (same y) ys ≡ true
  pub least : (p : X → Bool) → ((x : X) → start x ≡ true → p x ≡ true) → ((x y : X) → p x ≡ true → leads x y ≡ true → p y ≡ true) → (x : X) → list_any (same x) ys ≡ true → p x ≡ true

-- among the live records, a DELETE takes k and, with each that it takes, those that its option takes with it, and no more
abbrev pub DoomedIsLeast : Type 0
DoomedIsLeast = (schema : Lists) (capacity : ℕ) (db : Database) (option : Erase) (k : DbKey) → IsLeastSet key_eq (drags schema capacity db option) (key_eq k) (all_keys schema capacity db) (doomed schema capacity db option k)

-- record type t is the owner type of a set of which u is a member type
abbrev pub has_member_type : Lists → ℕ → ℕ → Bool
has_member_type schema t u = list_any (λ s. owns schema s t && is_some (member_clause schema s u)) (set_numbers schema)

-- the record types that can be reached from t are t and, with each of them, its member types, and no more
abbrev pub ReachableIsLeast : Type 0
ReachableIsLeast = (schema : Lists) (t : ℕ) → IsLeastSet (λ u v. u == v) (has_member_type schema) (λ u. u == t) (range_with_len 0 (length schema.types)) (reachable_types schema t)

-- the area of a record's type and the homes of all sets of which that is a member type are among these
pub record IsWithinAreas (schema : Lists) (areas : List ℕ) (k : DbKey) : Type 0 where
  pub own : list_any (λ a. a == area_of schema k.rtype) areas ≡ true
  pub homes : (s : ℕ) → is_some (member_clause schema s k.rtype) ≡ true → list_any (λ a. a == home schema s) areas ≡ true

-- in a legal database what a DELETE takes, and every member of its lists, is within the areas of a DELETE of its current's type
abbrev pub DeleteStaysInItsAreas : Type 0
DeleteStaysInItsAreas =
    (schema : Lists) (capacity : ℕ) (db : Database) (option : Erase) (k d : DbKey) → Legal schema capacity db → is_live db k ≡ true → is_member d (doomed schema capacity db option k) ≡ true
    → IsWithinAreas schema (erase_areas schema k.rtype) d
    × ((s : ℕ) (m : DbKey) → is_member m (members_of db s (Rec d)) ≡ true → IsWithinAreas schema (erase_areas schema k.rtype) m)
