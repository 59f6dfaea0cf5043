-- The laws of a legal database in parts: of what is stored, of the lists, of the usage lists.
use Rattle.std.proofs.Common.{◌≡◌, refl, sym, ◌∙◌, subst, ℕ, ◌<◌, ◌≤◌, Bool, true, false, cond, not, ◌&&◌, List, [], length, Option, Some, None, ◌⊎◌}
use Rattle.std.specs.Prelude.{is_some, unwrap_or, option_map}
use Rattle.dbtg_schema.specs.Lists.{Lists}
use Rattle.dbtg_cells.specs.declared.key.DbKey.{DbKey}
use Rattle.dbtg_cells.specs.declared.key.Owner.{Owner}
use Rattle.dbtg_cells.specs.declared.key.Owner.TheVariants.{System, Rec}
use Rattle.dbtg_cells.specs.declared.key.Value.{Value}
use Rattle.dbtg_cells.specs.declared.usage.Mode.{Mode}
use Rattle.dbtg_cells.specs.Keys.{values_eq}
use Rattle.dbtg_schema.specs.Lookups.{some_and}
use Rattle.dbtg_unit.specs.Database.State.Base.{Database, Record, is_live, items_of, is_member, key_item, calc_items}
use Rattle.dbtg_unit.specs.Database.Statements.Fits.{values_fit}
use Rattle.dbtg_unit.specs.Database.Statements.Effect.{raised, next_version}
use Rattle.dbtg_unit.specs.Database.State.Legal.{Legal, pairwise, differ, keys_in_order, agree, has_occurrence}
use Rattle.dbtg_schema.specs.Structure.{calc_of, is_automatic, is_mandatory, is_system, member_clause, order_of, owns, pictures}

-- the live keys, the items of each, the lists, the last generations and the usage lists: what a database is read by
abbrev pub Living : Type 0
Living = DbKey → Bool

abbrev pub Items : Type 0
Items = DbKey → List Value

abbrev pub Rows : Type 0
Rows = ℕ → Owner → Option (List DbKey)

abbrev pub members_in : Rows → ℕ → Owner → List DbKey
members_in lists s o = unwrap_or (lists s o) []

abbrev pub key_in : Lists → Items → ℕ → DbKey → Option Value
key_in schema items s x = key_item schema s x.rtype (items x)

abbrev pub ordered : Lists → Items → ℕ → DbKey → DbKey → Bool
ordered schema items s x y = keys_in_order (order_of schema s) (key_in schema items s x) (key_in schema items s y)

abbrev pub has_list : Lists → Living → ℕ → Owner → Bool
has_list schema live s System = is_system schema s
has_list schema live s (Rec k) = owns schema s k.rtype && live k

abbrev pub unique_calc : Lists → ℕ → Bool
unique_calc schema t = some_and (λ c. not c.duplicates_allowed) (calc_of schema t)

abbrev pub is_fixed : Lists → ℕ → ℕ → Bool
is_fixed schema s t = some_and (λ c. is_mandatory c.class && is_automatic c.class) (member_clause schema s t)

pub record Stock (schema : Lists) (capacity : ℕ) (live : Living) (items : Items) (last : ℕ → ℕ → ℕ) : Type 0 where
  pub keys : (k : DbKey) → live k ≡ true → (k.rtype < length schema.types) × (0 < k.number) × (k.number ≤ capacity) × (0 < k.generation) × (k.generation ≡ last k.rtype k.number)
  pub typed : (k : DbKey) → live k ≡ true → values_fit (pictures schema k.rtype) (items k) ≡ true
  pub generations : (t n : ℕ) → last t n ≤ 255
  pub no_number : (t n : ℕ) → (length schema.types ≤ t) ⊎ (n ≡ 0) ⊎ (capacity < n) → last t n ≡ 0
  pub calc : (j k : DbKey) → live j ≡ true → live k ≡ true → j.rtype ≡ k.rtype → unique_calc schema j.rtype ≡ true → values_eq (calc_items schema j.rtype (items j)) (calc_items schema k.rtype (items k)) ≡ true → j ≡ k

pub record Rings (schema : Lists) (live : Living) (items : Items) (lists : Rows) : Type 0 where
  pub pairs : (s : ℕ) (o : Owner) → is_some (lists s o) ≡ has_list schema live s o
  pub members : (s : ℕ) (o : Owner) (m : DbKey) → is_member m (members_in lists s o) ≡ true → (live m ≡ true) × (is_some (member_clause schema s m.rtype) ≡ true)
  pub in_one : (s : ℕ) (o p : Owner) (m : DbKey) → is_member m (members_in lists s o) ≡ true → is_member m (members_in lists s p) ≡ true → o ≡ p
  pub once : (s : ℕ) (o : Owner) → pairwise differ (members_in lists s o) ≡ true
  pub sorted : (s : ℕ) (o : Owner) → pairwise (ordered schema items s) (members_in lists s o) ≡ true

-- a live record is in a list of each set that it can't leave
abbrev pub Fixed : Lists → Living → Rows → Type 0
Fixed schema live lists = (s : ℕ) (m : DbKey) → live m ≡ true → is_fixed schema s m.rtype ≡ true → (o : Owner) × (is_member m (members_in lists s o) ≡ true)

pub record Uses (schema : Lists) (usage : ℕ → List (ℕ × Mode)) : Type 0 where
  pub no_area : (a : ℕ) → length schema.areas ≤ a → usage a ≡ []
  pub users_agree : (a : ℕ) → pairwise agree (usage a) ≡ true

-- everything except that each record is in the lists that it can't leave
pub record Sound (schema : Lists) (capacity : ℕ) (live : Living) (items : Items) (lists : Rows) (last : ℕ → ℕ → ℕ) : Type 0 where
  pub stock : Stock schema capacity live items last
  pub rings : Rings schema live items lists
  pub fixed : Fixed schema live lists

same_occurrence : (schema : Lists) (db : Database) (s : ℕ) (o : Owner) → has_occurrence schema db s o ≡ has_list schema (is_live db) s o
same_occurrence schema db s System = refl
same_occurrence schema db s (Rec k) = refl

module _ (schema : Lists) (capacity : ℕ) (db : Database) where
  pub legal_from : Sound schema capacity (is_live db) (items_of db) db.lists db.last → Uses schema db.usage → Legal schema capacity db
  legal_from sound uses =
      record {
        keys = sound.stock.keys;
        items = sound.stock.typed;
        generations = sound.stock.generations;
        no_number = sound.stock.no_number;
        no_area = uses.no_area;
        pairs = λ s o. sound.rings.pairs s o ∙ sym (same_occurrence schema db s o);
        members = sound.rings.members;
        in_one = sound.rings.in_one;
        once = sound.rings.once;
        sorted = sound.rings.sorted;
        calc = sound.stock.calc;
        mandatory_automatic = sound.fixed;
        usage = uses.users_agree;
      }

  pub sound_of : Legal schema capacity db → Sound schema capacity (is_live db) (items_of db) db.lists db.last
  sound_of legal =
      record {
        stock = record { keys = legal.keys; typed = legal.items; generations = legal.generations; no_number = legal.no_number; calc = legal.calc };
        rings = record { pairs = λ s o. legal.pairs s o ∙ same_occurrence schema db s o; members = legal.members; in_one = legal.in_one; once = legal.once; sorted = legal.sorted };
        fixed = legal.mandatory_automatic;
      }

  pub uses_of : Legal schema capacity db → Uses schema db.usage
  uses_of legal = record { no_area = legal.no_area; users_agree = legal.usage }

-- RAISED VERSIONS

module _ (test : DbKey → Bool) (db : Database) where
  -- what is read from a record, and is the same for its next version, stays the same if versions are raised
  read_raised : {X : Type 0} (read : Option Record → X) → ((r : Record) → read (Some (next_version r)) ≡ read (Some r)) → (k : DbKey) → read ((raised test db).records k) ≡ read (db.records k)
  read_raised read kept k = elim (test k) as (λ b. read (cond b (option_map next_version (db.records k)) (db.records k)) ≡ read (db.records k)) [
    | true ↦ elim (db.records k) as (λ r. read (option_map next_version r) ≡ read r) [ None ↦ refl | Some r ↦ kept r ]
    | false ↦ refl
  ]

  pub live_raised : is_live (raised test db) ≡ is_live db
  live_raised = λ i k. read_raised is_some (λ r. refl) k i

  pub items_raised : items_of (raised test db) ≡ items_of db
  items_raised = λ i k. read_raised (λ o. unwrap_or (option_map (λ (r : Record). r.items) o) []) (λ r. refl) k i

-- a legal database stays legal if versions are raised: its laws don't read them
pub legal_raised : (schema : Lists) (capacity : ℕ) (test : DbKey → Bool) (db : Database) → Sound schema capacity (is_live db) (items_of db) db.lists db.last → Uses schema db.usage → Legal schema capacity (raised test db)
legal_raised schema capacity test db sound uses =
    legal_from schema capacity (raised test db)
    (subst (λ (live : Living). Sound schema capacity live (items_of (raised test db)) db.lists db.last) (sym (live_raised test db))
    (subst (λ (items : Items). Sound schema capacity (is_live db) items db.lists db.last) (sym (items_raised test db)) sound))
    uses
