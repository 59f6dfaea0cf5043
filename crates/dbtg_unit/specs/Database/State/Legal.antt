-- What is true of every database that statements make.
-- k and m are keys, s a set, o and p owners, t a record type, n a number, a an area, db a database.
use Rattle.std.specs.Prelude.{◌≡◌, ℕ, ◌<◌, ◌≤◌, Bool, true, not, ◌&&◌, ◌==◌, List, [], ◌∷◌, Option, is_some, length, ◌⊎◌}
use Rattle.std.specs.List.{list_all}
use Rattle.dbtg_schema.specs.Lists.{Lists}
use Rattle.dbtg_schema.specs.declared.shape.Order.{Order}
use Rattle.dbtg_schema.specs.declared.shape.Order.TheVariants.{Sorted}
use Rattle.dbtg_schema.specs.declared.shape.Duplicates.TheVariants.{NotAllowed}
use Rattle.dbtg_cells.specs.declared.key.DbKey.{DbKey}
use Rattle.dbtg_cells.specs.declared.key.Owner.{Owner}
use Rattle.dbtg_cells.specs.declared.key.Owner.TheVariants.{System, Rec}
use Rattle.dbtg_cells.specs.declared.key.Value.{Value}
use Rattle.dbtg_cells.specs.declared.usage.Mode.{Mode}
pub use Rattle.dbtg_cells.specs.Users.{mode_in}
use Rattle.dbtg_cells.specs.Keys.{key_eq, values_eq}
use Rattle.dbtg_cells.specs.declared.limits.TheConstants.{LAST_GENERATION}
use Rattle.dbtg_unit.specs.declared.unit.Unit.{Unit}
use Rattle.dbtg_schema.specs.Lookups.{at, some_and}
use Rattle.dbtg_unit.specs.Database.State.Base.{Database, is_live, items_of, members_of, is_member, sort_key, calc_items}
use Rattle.dbtg_unit.specs.Database.Statements.Fits.{values_fit}
use Rattle.dbtg_unit.specs.Database.Statements.Effect.{conflict, sort_key_below}
use Rattle.dbtg_schema.specs.Structure.{calc_of, is_automatic, is_mandatory, is_system, member_clause, order_of, owns, pictures}

-- the test holds for each element and each later one
abbrev pub pairwise : {X : Type 0} → (X → X → Bool) → List X → Bool
pairwise test [] = true
pairwise test (x ∷ xs) = list_all (test x) xs && pairwise test xs

-- two keys
abbrev pub differ : DbKey → DbKey → Bool
differ a b = not (key_eq a b)

-- set s has an occurrence of owner o
abbrev pub has_occurrence : Lists → Database → ℕ → Owner → Bool
has_occurrence schema db s System = is_system schema s
has_occurrence schema db s (Rec k) = owns schema s k.rtype && is_live db k

-- keys may come one before the other in a list of this order
abbrev pub keys_in_order : Order → Option Value → Option Value → Bool
keys_in_order (Sorted ascending NotAllowed) a b = sort_key_below ascending a b
keys_in_order (Sorted ascending duplicates) a b = not (sort_key_below ascending b a)
keys_in_order order a b = true

-- x may come before y in a list of set s
abbrev pub in_order : Lists → Database → ℕ → DbKey → DbKey → Bool
in_order schema db s x y = keys_in_order (order_of schema s) (sort_key schema db s x) (sort_key schema db s y)

-- for two units and their modes in one area
abbrev pub agree : ℕ × Mode → ℕ × Mode → Bool
agree a b = not (a.0 == b.0) && not (conflict a.1 b.1)

-- what is true of every database that statements make
pub record Legal (schema : Lists) (capacity : ℕ) (db : Database) : Type 0 where
  -- a live key has a type of the schema, a number within the capacity, and its number's last generation
  pub keys : (k : DbKey) → is_live db k ≡ true → (k.rtype < length schema.types) × (0 < k.number) × (k.number ≤ capacity) × (0 < k.generation) × (k.generation ≡ db.last k.rtype k.number)
  -- it has a value for each item of its type, each of its picture
  pub items : (k : DbKey) → is_live db k ≡ true → values_fit (pictures schema k.rtype) (items_of db k) ≡ true
  -- no number has a generation behind the last
  pub generations : (t n : ℕ) → db.last t n ≤ LAST_GENERATION
  -- nothing is outside the schema and the capacity
  pub no_number : (t n : ℕ) → (length schema.types ≤ t) ⊎ (n ≡ 0) ⊎ (capacity < n) → db.last t n ≡ 0
  pub no_area : (a : ℕ) → length schema.areas ≤ a → db.usage a ≡ []
  -- the pairs in lists are each set with SYSTEM or with each live key of its owner type
  pub pairs : (s : ℕ) (o : Owner) → is_some (db.lists s o) ≡ has_occurrence schema db s o
  -- a member is live, and of a member type of its set
  pub members : (s : ℕ) (o : Owner) (m : DbKey) → is_member m (members_of db s o) ≡ true → (is_live db m ≡ true) × (is_some (member_clause schema s m.rtype) ≡ true)
  -- it is in the list of at most one owner of the set
  pub in_one : (s : ℕ) (o p : Owner) (m : DbKey) → is_member m (members_of db s o) ≡ true → is_member m (members_of db s p) ≡ true → o ≡ p
  -- and there once
  pub once : (s : ℕ) (o : Owner) → pairwise differ (members_of db s o) ≡ true
  -- a list respects the order of its set
  pub sorted : (s : ℕ) (o : Owner) → pairwise (in_order schema db s) (members_of db s o) ≡ true
  -- if duplicates are not allowed, no two live keys of a type have the same CALC values
  pub calc : (j k : DbKey) → is_live db j ≡ true → is_live db k ≡ true → j.rtype ≡ k.rtype → some_and (λ c. not c.duplicates_allowed) (calc_of schema j.rtype) ≡ true → values_eq (calc_items schema j.rtype (items_of db j)) (calc_items schema k.rtype (items_of db k)) ≡ true → j ≡ k
  -- a live key is connected in each set in which it is mandatory and automatic
  pub mandatory_automatic : (s : ℕ) (m : DbKey) → is_live db m ≡ true → some_and (λ c. is_mandatory c.class && is_automatic c.class) (member_clause schema s m.rtype) ≡ true → (o : Owner) × (is_member m (members_of db s o) ≡ true)
  -- in a usage list each unit appears once, and no two modes conflict
  pub usage : (a : ℕ) → pairwise agree (db.usage a) ≡ true

-- the modes of a unit are its entries in the usage lists
abbrev pub UsageAgrees : Database → Unit → Type 0
UsageAgrees db unit = (a : ℕ) → mode_in (db.usage a) unit.number ≡ at unit.modes a
