-- What is read from the ring of the current owner decides a placing as the database does, and where it does not refuse, the
-- new member can be placed.
use Rattle.std.proofs.Common.{◌≡◌, refl, ◌∙◌, ap, ℕ, Bool, true, false, ◌&&◌, List, [], ◌∷◌, Option, Some, None, map}
use Rattle.std.specs.Prelude.{is_none, is_some}
use Rattle.std.specs.List.{list_all}
use Rattle.std.proofs.lemmas.Bool.{not-false}
use Rattle.std.proofs.lemmas.List.Folds.{list_all-map}
use Rattle.dbtg_schema.specs.Lists.{Lists}
use Rattle.dbtg_schema.specs.Lookups.{first_cause}
use Rattle.dbtg_schema.specs.Sound.{IsSound}
use Rattle.dbtg_schema.specs.Structure.{member_clause, order_of, pictures}
use Rattle.dbtg_schema.specs.declared.shape.Order.{Order}
use Rattle.dbtg_schema.specs.declared.shape.Order.TheVariants.{First, Last, Next, Prior, Sorted}
use Rattle.dbtg_schema.proofs.Public.{some_from_none}
use Rattle.dbtg_cells.specs.declared.key.DbKey.{DbKey}
use Rattle.dbtg_cells.specs.declared.key.Owner.{Owner}
use Rattle.dbtg_cells.specs.declared.key.Value.{Value}
use Rattle.dbtg_cells.specs.declared.name.CellName.TheVariants.{Ring}
use Rattle.dbtg_cells.specs.declared.ring.Occurrence.{Occurrence}
use Rattle.dbtg_cells.specs.Members.{Entry, keys_in, members_in}
use Rattle.dbtg_unit.specs.Database.Statements.Checks.{place_checks}
use Rattle.dbtg_unit.specs.declared.unit.Cause.TheVariants.{Deleted, PositionLost}
use Rattle.dbtg_unit.specs.declared.unit.Unit.{Unit}
use Rattle.dbtg_unit.specs.Database.State.Base.{Database, items_of, key_item, members_of, sort_key}
use Rattle.dbtg_unit.specs.Database.State.CellNames.{place_of}
use Rattle.dbtg_unit.specs.Hands.CanEdit.{CanPlace, IsPosition}
use Rattle.dbtg_unit.specs.Database.Statements.Effect.{uses_position}
use Rattle.dbtg_unit.specs.Database.Statements.Fits.{values_fit}
use Rattle.dbtg_unit.specs.Database.Statements.Found.{is_lost}
use Rattle.dbtg_unit.specs.Hands.Hands.{Hands}
use Rattle.dbtg_unit.specs.Database.State.Legal.{Legal, pairwise, keys_in_order}
use Rattle.dbtg_unit.specs.Hands.Local.{Agrees, holds}
use Rattle.dbtg_unit.specs.Database.Laws.Placing.{comparable, compares}
use Rattle.dbtg_unit.proofs.Public.{all_members, checks_at_agree, divided_by_new_member, entries_in_hand, keys_compare, pairwise_weaker, passes_check, same_occurrence}
use Rattle.dbtg_unit.specs.Hands.InHand.{in_hand}
use Rattle.dbtg_unit.specs.Database.Statements.StoredFacts.{whole}
use Rattle.dbtg_unit.specs.Database.Statements.Conditions.{joined_place}
use Rattle.dbtg_plan.specs.Inside.Joining.{joined_occurrence}

-- A PLACE FOR A NEW MEMBER

-- a position that is not lost is a member; none is at the owner
is_position : (position : Option DbKey) (occurrence : Option Occurrence) → is_some occurrence ≡ true → is_lost position (keys_in occurrence) ≡ false → IsPosition position occurrence
is_position None occurrence there found = there
is_position (Some p) occurrence there found = not-false _ found

-- in an occurrence in its order, with sort keys of the new one's kind, a new member can be placed where its position is there
pub can_place : (order : Order) (position : Option DbKey) (key : Option Value) (occurrence : Option Occurrence)
    → is_none occurrence ≡ false → (uses_position order && is_lost position (keys_in occurrence)) ≡ false
    → list_all (λ e. compares order e.1 key) (members_in occurrence) ≡ true → pairwise (λ x y. keys_in_order order x.1 y.1) (members_in occurrence) ≡ true
    → CanPlace order position key occurrence
can_place First position key occurrence there found kinds stand = some_from_none occurrence there
can_place Last position key occurrence there found kinds stand = some_from_none occurrence there
can_place Next position key occurrence there found kinds stand = is_position position occurrence (some_from_none occurrence there) found
can_place Prior position key occurrence there found kinds stand = is_position position occurrence (some_from_none occurrence there) found
can_place (Sorted up duplicates) position key occurrence there found kinds stand = (
  some_from_none occurrence there,
  pairwise_weaker (λ (x y : Entry). keys_in_order (Sorted up duplicates) x.1 y.1) _ (λ (e : Entry). comparable e.1 key) (members_in occurrence) (λ x y j k h. divided_by_new_member up duplicates x.1 y.1 key j k h) kinds stand,
)

-- WHAT A LEGAL DATABASE HAS IN A RING

pub pairwise_map : {X Y : Type 0} (f : X → Y) (r : Y → Y → Bool) (xs : List X) → pairwise r (map f xs) ≡ pairwise (λ x y. r (f x) (f y)) xs
pairwise_map f r [] = refl
pairwise_map f r (x ∷ xs) = λ i. list_all-map (r (f x)) f xs i && pairwise_map f r xs i

-- the sort keys of the members of a list are of one kind with that of another record that can be a member
pub members_compare : (schema : Lists) (capacity : ℕ) (db : Database) → Legal schema capacity db → IsSound schema → (s t : ℕ) (o : Owner) (items : List Value)
    → is_some (member_clause schema s t) ≡ true → values_fit (pictures schema t) items ≡ true
    → list_all (λ x. compares (order_of schema s) (sort_key schema db s x) (key_item schema s t items)) (members_of db s o) ≡ true
members_compare schema capacity db legal sound s t o items clause fit =
    all_members (λ x. compares (order_of schema s) (sort_key schema db s x) (key_item schema s t items)) (members_of db s o)
    (λ x h. let m = legal.members s o x h in keys_compare schema sound s x.rtype t (items_of db x) items m.1 clause (legal.items x m.0) fit)

-- JOINING THE CURRENT OCCURRENCE

module _ (schema : Lists) (capacity : ℕ) (db : Database) (hands : Hands) (unit : Unit) (agrees : Agrees schema capacity db hands unit) (s : ℕ)
    (held : holds hands.cells (Ring s (place_of (joined_place schema unit s).owner)) ≡ true) where
  -- the checks on the held ring are those of the database
  pub place_checks_in_hand : (key : Option Value) → place_checks schema (in_hand hands) unit s key ≡ place_checks schema (whole schema capacity db) unit s key
  place_checks_in_hand =
      checks_at_agree (in_hand hands) (whole schema capacity db) unit schema s (joined_place schema unit s) (same_occurrence schema capacity db hands unit agrees s (joined_place schema unit s).owner held)

  -- where they pass, a record that can be a member can be placed
  pub can_join_in_hand : IsSound schema → (t : ℕ) (items : List Value) → is_some (member_clause schema s t) ≡ true → values_fit (pictures schema t) items ≡ true
      → first_cause (place_checks schema (in_hand hands) unit s (key_item schema s t items)) ≡ None
      → CanPlace (order_of schema s) (joined_place schema unit s).at (key_item schema s t items) (joined_occurrence schema unit hands s)
  can_join_in_hand sound t items clause fit passes =
      let place = joined_place schema unit s in
      let occurrence = joined_occurrence schema unit hands s in
      let members = entries_in_hand schema capacity db hands unit agrees s place.owner held in
      let present = passes_check (is_none occurrence) Deleted _ passes in
      let found = passes_check (uses_position (order_of schema s) && is_lost place.at (keys_in occurrence)) PositionLost _ present.1 in
      can_place (order_of schema s) place.at (key_item schema s t items) occurrence present.0 found.0
      (ap (list_all (λ (e : Entry). compares (order_of schema s) e.1 (key_item schema s t items))) members
      ∙ list_all-map (λ (e : Entry). compares (order_of schema s) e.1 (key_item schema s t items)) (λ k. (k, sort_key schema db s k)) (members_of db s place.owner)
      ∙ members_compare schema capacity db agrees.legal sound s t place.owner items clause fit)
      (ap (pairwise (λ (x y : Entry). keys_in_order (order_of schema s) x.1 y.1)) members
      ∙ pairwise_map (λ k. (k, sort_key schema db s k)) (λ (x y : Entry). keys_in_order (order_of schema s) x.1 y.1) (members_of db s place.owner)
      ∙ agrees.legal.sorted s place.owner)
