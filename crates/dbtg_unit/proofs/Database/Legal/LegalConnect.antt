-- A record that is placed in its current owners' lists, by STORE and INSERT, keeps the lists legal.
use Rattle.std.proofs.Common.{◌≡◌, sym, ◌∙◌, subst, ℕ, Bool, true, false, ◌&&◌, List, [], ◌∷◌, Option, Some, None}
use Rattle.std.specs.Prelude.{is_some, is_none, option_and_then, unwrap_or}
use Rattle.std.specs.List.{list_any}
use Rattle.std.proofs.lemmas.Bool.{and_parts, false≢true, true≢false}
use Rattle.dbtg_schema.specs.Lists.{Lists}
use Rattle.dbtg_schema.specs.Sound.{IsSound}
use Rattle.dbtg_schema.specs.Lookups.{some_and, first_cause}
use Rattle.dbtg_schema.specs.Structure.{member_clause, order_of, pictures}
use Rattle.dbtg_schema.proofs.Public.{some_from_none}
use Rattle.dbtg_cells.specs.declared.key.DbKey.{DbKey}
use Rattle.dbtg_cells.specs.declared.key.Owner.{Owner}
use Rattle.dbtg_cells.specs.declared.key.Owner.TheVariants.{System}
use Rattle.dbtg_cells.specs.declared.key.Value.{Value}
use Rattle.dbtg_cells.specs.Placed.{Spot}
use Rattle.dbtg_cells.specs.Keys.{owner_eq}
use Rattle.dbtg_cells.proofs.Public.{owner_eq_refl, same_owner}
use Rattle.dbtg_unit.specs.declared.unit.Place.{Place}
use Rattle.dbtg_unit.specs.declared.unit.Unit.{Unit}
use Rattle.dbtg_unit.specs.Database.State.Base.{Database, is_member, members_of, sort_key}
use Rattle.dbtg_unit.specs.Database.State.Units.{place_in}
use Rattle.dbtg_unit.specs.Database.Statements.Fits.{values_fit}
use Rattle.dbtg_unit.specs.Database.Statements.StoredFacts.{whole}
use Rattle.dbtg_unit.specs.Database.Statements.Effect.{place_checks, is_current_owner, refuses_equal, option_value_eq, uses_position}
use Rattle.dbtg_unit.specs.Database.Statements.Found.{is_lost}
use Rattle.dbtg_unit.specs.declared.unit.Cause.{Cause}
use Rattle.dbtg_unit.specs.declared.unit.Cause.TheVariants.{Deleted, PositionLost, DuplicatesNotAllowed}
use Rattle.dbtg_unit.proofs.Database.Legal.LegalParts.{Living, Items, Rows, members_in, key_in, Rings}
use Rattle.dbtg_unit.proofs.Database.Legal.ListsChanged.{rings_placed, spot_at, with_placed}
use Rattle.dbtg_unit.proofs.Database.Legal.PassedChecks.{has_number, first_check_passes}

pub current_owner_is : (place : Option Place) (o p : Owner) → some_and (λ q. owner_eq q.owner o) place ≡ true → some_and (λ q. owner_eq q.owner p) place ≡ true → o ≡ p
current_owner_is None o p h g = absurd (false≢true h)
current_owner_is (Some q) o p h g = sym (same_owner q.owner o h) ∙ same_owner q.owner p g

-- the current owner is the one at which the checks look
pub owner_of_place : (place : Option Place) (o : Owner) → some_and (λ q. owner_eq q.owner o) place ≡ true → (unwrap_or place (record { owner = System; at = None })).owner ≡ o
owner_of_place None o h = absurd (false≢true h)
owner_of_place (Some q) o h = same_owner q.owner o h

-- a place is at its owner
pub place_owner : (place : Option Place) → is_none place ≡ false → some_and (λ q. owner_eq q.owner (unwrap_or place (record { owner = System; at = None })).owner) place ≡ true
place_owner None h = absurd (true≢false h)
place_owner (Some q) h = owner_eq_refl q.owner

-- what the checks of a placing have passed: the current owner's list is there, and has no equal key where it refuses them
pub record CanJoin (schema : Lists) (db : Database) (unit : Unit) (s : ℕ) (key : Option Value) : Type 0 where
  pub list : (o : Owner) → is_current_owner schema unit s o ≡ true → is_some (db.lists s o) ≡ true
  pub owner_differs : (o : Owner) → is_current_owner schema unit s o ≡ true → (refuses_equal (order_of schema s) && list_any (λ x. option_value_eq (sort_key schema db s x) key) (members_of db s o)) ≡ false

module _ (schema : Lists) (db : Database) (unit : Unit) (s : ℕ) (key : Option Value) where
  abbrev current_place : Place
  current_place = unwrap_or (place_in schema unit s) (record { owner = System; at = None })

  abbrev lost : Bool × Cause
  lost = (uses_position (order_of schema s) && is_lost current_place.at (members_of db s current_place.owner), PositionLost)

  abbrev taken : Bool × Cause
  taken = (refuses_equal (order_of schema s) && list_any (λ x. option_value_eq (sort_key schema db s x) key) (members_of db s current_place.owner), DuplicatesNotAllowed)

  pub can_join : (capacity : ℕ) → first_cause (place_checks schema (whole schema capacity db) unit s key) ≡ None → CanJoin schema db unit s key
  can_join capacity h =
      let present = first_check_passes (is_none (db.lists s current_place.owner), Deleted) (lost ∷ taken ∷ []) h in
      let found = first_check_passes lost (taken ∷ []) present.1 in
      let free = first_check_passes taken [] found.1 in
      record {
        list = λ o c. subst (λ (p : Owner). is_some (db.lists s p) ≡ true) (owner_of_place (place_in schema unit s) o c) (some_from_none (db.lists s current_place.owner) present.0);
        owner_differs = λ o c. subst (λ (p : Owner). (refuses_equal (order_of schema s) && list_any (λ x. option_value_eq (sort_key schema db s x) key) (members_of db s p)) ≡ false) (owner_of_place (place_in schema unit s) o c) free.0;
      }

module _ (schema : Lists) (unit : Unit) (sets : List ℕ) (live : Living) (items : Items) (lists : Rows) (m : DbKey) where
  -- the lists that m joins, and where
  abbrev pub joins : ℕ → Owner → Bool
  joins s o = has_number s sets && is_current_owner schema unit s o

  abbrev pub spot_in : ℕ → Spot DbKey
  spot_in = spot_at schema live items lists m joins (λ s. option_and_then (λ place. place.at) (place_in schema unit s))

  pub connected_rings : IsSound schema → ((x : DbKey) → live x ≡ true → values_fit (pictures schema x.rtype) (items x) ≡ true)
      → Rings schema live items lists → live m ≡ true
      → ((s : ℕ) → has_number s sets ≡ true → is_some (member_clause schema s m.rtype) ≡ true)
      → ((s : ℕ) (o : Owner) → has_number s sets ≡ true → is_member m (members_in lists s o) ≡ false)
      → ((s : ℕ) (o : Owner) → joins s o ≡ true → (refuses_equal (order_of schema s) && list_any (λ x. option_value_eq (key_in schema items s x) (key_in schema items s m)) (members_in lists s o)) ≡ false)
      → Rings schema live items (with_placed schema live items lists m joins spot_in)
  connected_rings good typed rings alive clause absent owner_differs =
      rings_placed schema live items lists m joins (λ s. option_and_then (λ place. place.at) (place_in schema unit s)) good typed rings alive
      (λ s o j. clause s (and_parts _ _ j).0)
      (λ s o p j. absent s p (and_parts _ _ j).0)
      (λ s o p j k. current_owner_is (place_in schema unit s) o p (and_parts _ _ j).1 (and_parts _ _ k).1)
      owner_differs
