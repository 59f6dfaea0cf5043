-- What is read from the held cells is true in each database that agrees with them.
use Rattle.std.proofs.Common.{◌≡◌, refl, sym, ◌∙◌, ap, subst, ℕ, Bool, true, false, cond, List, [], length, Option, Some, None, arith, eqb, map, inl, inr}
use Rattle.std.specs.Prelude.{is_none, is_some, option_map, option_and_then, unwrap_or}
use Rattle.std.specs.List.{list_any, range_with_len}
use Rattle.std.proofs.lemmas.Bool.{cases_Bool, false≢true, true≢false}
use Rattle.std.proofs.lemmas.List.FromFn.{get_or-map-range_with_len}
use Rattle.dbtg_schema.specs.Lists.{Lists}
use Rattle.dbtg_schema.specs.Lookups.{at}
use Rattle.dbtg_schema.specs.Structure.{set_numbers}
use Rattle.dbtg_cells.specs.declared.key.DbKey.{DbKey}
use Rattle.dbtg_cells.specs.declared.key.Owner.{Owner}
use Rattle.dbtg_cells.specs.declared.key.Value.{Value}
use Rattle.dbtg_cells.specs.declared.name.CellName.{CellName}
use Rattle.dbtg_cells.specs.declared.name.CellName.TheVariants.{Usage, Extent, Ring}
use Rattle.dbtg_cells.specs.declared.cell.Cell.{Cell}
use Rattle.dbtg_cells.specs.declared.cell.Cell.TheVariants.{Usage as UsageCell, Extent as ExtentCell, Ring as RingCell, Slot as SlotCell}
use Rattle.dbtg_cells.specs.declared.ring.Occurrence.{Occurrence}
use Rattle.dbtg_cells.specs.declared.slot.Stored.{Stored}
use Rattle.dbtg_cells.specs.Cells.{shown}
use Rattle.dbtg_cells.specs.Keys.{owner_eq}
use Rattle.dbtg_cells.specs.Members.{has_sort_key, keys_in, members_in}
use Rattle.dbtg_cells.specs.Shown.{CellValue, SlotValue, RingValue}
use Rattle.dbtg_cells.proofs.Public.{any_map}
use Rattle.dbtg_unit.specs.declared.unit.Unit.{Unit}
use Rattle.dbtg_unit.specs.Database.State.Base.{Database, Record, is_live, items_of, members_of, owner_of, sort_key}
use Rattle.dbtg_unit.specs.Database.State.CellNames.{slot_name, place_of}
use Rattle.dbtg_unit.specs.Database.State.Cells.{cell, number_of}
use Rattle.dbtg_unit.specs.Database.Statements.StoredFacts.{whole}
use Rattle.dbtg_unit.specs.Database.Statements.Effect.{version_of}
use Rattle.dbtg_unit.specs.Hands.Hands.{Hands, cell_of}
use Rattle.dbtg_unit.specs.Hands.InHand.{stored_of, stored_in, of_owner, occurrence_of, occurrence_in, numbers_of, numbers_in, users_of, users_in, items_in, version_in, owner_in, in_hand}
use Rattle.dbtg_unit.specs.Hands.Local.{Agrees, holds}
use Rattle.dbtg_unit.specs.Database.State.Units.{owners_of}
use Rattle.dbtg_unit.specs.Database.Statements.StoredFacts.{whole}
use Rattle.dbtg_unit.proofs.Database.Legal.SameFacts.{SameOccurrence, SameRecord}
use Rattle.dbtg_unit.proofs.Database.Records.Determined.{usage_in, extent_in, ring_in, slot_in, record_in}
use Rattle.dbtg_unit.proofs.Database.Records.LiveKeys.{unlisted_has_no_owner}
use Rattle.dbtg_unit.proofs.Lists.Membership.{In, of_range}
use Rattle.dbtg_unit.proofs.Hands.Reading.ReadingCells.{held_is_there, held_cell_agrees, list_in, record_at, slot_reads, slot_owners_read, ring_reads, ring_keys_read}

-- READING ONE CELL

-- for a record, by what the slot shows
pub stored_shows : (k : DbKey) (x : Cell) → stored_of k.generation (Some x) ≡ option_and_then (λ (r : Stored). cond (eqb r.generation k.generation) (Some r) None) (slot_in (shown x))
stored_shows k (SlotCell None) = refl
stored_shows k (SlotCell (Some stored)) = refl
stored_shows k (UsageCell u) = refl
stored_shows k (ExtentCell e) = refl
stored_shows k (RingCell r) = refl

record_of : (k : DbKey) (slot : Option Stored) → record_at slot k ≡ option_map record_in (option_and_then (λ (r : Stored). cond (eqb r.generation k.generation) (Some r) None) slot)
record_of k None = refl
record_of k (Some r) = elim (eqb r.generation k.generation) as (λ b. cond b (Some (record_in r)) None ≡ option_map record_in (cond b (Some r) None)) [ true ↦ refl | false ↦ refl ]

pub occurrence_shows : (o : Owner) (x : Cell) → occurrence_of o (Some x) ≡ of_owner o (ring_in (shown x))
occurrence_shows o (RingCell r) = refl
occurrence_shows o (UsageCell u) = refl
occurrence_shows o (ExtentCell e) = refl
occurrence_shows o (SlotCell s) = refl

list_of : (o : Owner) (ring : Option Occurrence) → list_in ring o ≡ option_map (λ (r : Occurrence). map (λ (e : DbKey × Option Value). e.0) r.members) (of_owner o ring)
list_of o None = refl
list_of o (Some r) =
    elim (owner_eq r.owner o) as (λ b. cond b (Some (map (λ (e : DbKey × Option Value). e.0) r.members)) None ≡ option_map (λ (r : Occurrence). map (λ (e : DbKey × Option Value). e.0) r.members) (cond b (Some r) None)) [ true ↦ refl | false ↦ refl ]

pub numbers_show : (x : Cell) → numbers_of (Some x) ≡ extent_in (shown x)
numbers_show (ExtentCell e) = refl
numbers_show (UsageCell u) = refl
numbers_show (RingCell r) = refl
numbers_show (SlotCell s) = refl

pub users_show : (x : Cell) → users_of (Some x) ≡ usage_in (shown x)
users_show (UsageCell u) = refl
users_show (ExtentCell e) = refl
users_show (RingCell r) = refl
users_show (SlotCell s) = refl

-- the one that passes is the one that was there
picked_from : {X : Type 0} (p : X → Bool) (o : Option X) (x : X) → option_and_then (λ y. cond (p y) (Some y) None) o ≡ Some x → (o ≡ Some x) × (p x ≡ true)
picked_from p None x h = cc
picked_from {X} p (Some y) x h =
    elim (cases_Bool (p y)) [
      | inl e ↦ let same : ◌≡◌ {A = Option X} (Some y) (Some x) = subst (λ b. cond b (Some y) None ≡ Some x) e h in (same, cc)
      | inr e ↦ let none : ◌≡◌ {A = Option X} None (Some x) = subst (λ b. cond b (Some y) None ≡ Some x) e h in cc
    ]

same_none : {X Y : Type 0} (a : Option X) (b : Option Y) → is_some a ≡ is_some b → is_none b ≡ is_none a
same_none None None h = refl
same_none None (Some y) h = absurd (false≢true h)
same_none (Some x) None h = absurd (true≢false h)
same_none (Some x) (Some y) h = refl

-- what a held cell shows
pub held_shows : (schema : Lists) (capacity : ℕ) (db : Database) (hands : Hands) (unit : Unit) → Agrees schema capacity db hands unit → (c : CellName) → holds hands.cells c ≡ true
    → (x : Cell) × (cell_of c hands.cells ≡ Some x) × (shown x ≡ cell schema capacity db c)
held_shows schema capacity db hands unit agrees c held =
    let x = held_is_there hands.cells c held in
    (x.0, x.1, held_cell_agrees schema capacity db hands.cells c x.0 agrees.cells x.1)

module _ (schema : Lists) (capacity : ℕ) (db : Database) (hands : Hands) (unit : Unit) (agrees : Agrees schema capacity db hands unit) where
  -- RECORDS

  module _ (k : DbKey) (held : holds hands.cells (slot_name k) ≡ true) where
    -- the slot is one
    slot_is : (x : Cell) → shown x ≡ cell schema capacity db (slot_name k) → SlotValue (slot_in (shown x)) ≡ cell schema capacity db (slot_name k)
    unfolding cell
    slot_is x h = ap (λ (v : CellValue). SlotValue (slot_in v)) h

    stored_is : (x : Cell) → cell_of (slot_name k) hands.cells ≡ Some x → stored_in hands k ≡ option_and_then (λ (r : Stored). cond (eqb r.generation k.generation) (Some r) None) (slot_in (shown x))
    stored_is x e = ap (stored_of k.generation) e ∙ stored_shows k x

    pub record_in_hand : db.records k ≡ option_map record_in (stored_in hands k)
    record_in_hand =
        let x = held_shows schema capacity db hands unit agrees (slot_name k) held in
        slot_reads schema capacity db agrees.legal k (slot_in (shown x.0)) (slot_is x.0 x.2)
        ∙ record_of k (slot_in (shown x.0)) ∙ ap (option_map record_in) (sym (stored_is x.0 x.1))

    pub live_in_hand : is_live db k ≡ is_some (stored_in hands k)
    live_in_hand = ap is_some record_in_hand ∙ there (stored_in hands k) where
      there : (r : Option Stored) → is_some (option_map record_in r) ≡ is_some r
      there None = refl
      there (Some r) = refl

    pub items_in_hand : items_of db k ≡ items_in hands k
    items_in_hand = ap (λ (o : Option Record). unwrap_or (option_map (λ (r : Record). r.items) o) []) record_in_hand ∙ there (stored_in hands k) where
      there : (r : Option Stored) → unwrap_or (option_map (λ (r : Record). r.items) (option_map record_in r)) [] ≡ unwrap_or (option_map (λ (r : Stored). r.items) r) []
      there None = refl
      there (Some r) = refl

    pub version_in_hand : version_of db k ≡ version_in hands k
    version_in_hand = ap (λ (o : Option Record). unwrap_or (option_map (λ (r : Record). r.version) o) 0) record_in_hand ∙ there (stored_in hands k) where
      there : (r : Option Stored) → unwrap_or (option_map (λ (r : Record). r.version) (option_map record_in r)) 0 ≡ unwrap_or (option_map (λ (r : Stored). r.version) r) 0
      there None = refl
      there (Some r) = refl

    -- its slot answers as the database does
    pub same_record : SameRecord (in_hand hands) (whole schema capacity db) k
    same_record = record { is_live = sym live_in_hand; items = sym items_in_hand; version = sym version_in_hand }

    -- its owners
    pub owners_in_hand : (stored : Stored) → stored_in hands k ≡ Some stored → stored.owners ≡ owners_of schema capacity db k
    owners_in_hand stored e =
        let x = held_shows schema capacity db hands unit agrees (slot_name k) held in
        let there = picked_from (λ (r : Stored). eqb r.generation k.generation) (slot_in (shown x.0)) stored (sym (stored_is x.0 x.1) ∙ e) in
        slot_owners_read schema capacity db agrees.legal k stored (ap SlotValue (sym there.0) ∙ slot_is x.0 x.2) there.1

    pub owner_in_hand : (s : ℕ) → In s (set_numbers schema) → owner_of schema capacity db s k ≡ owner_in hands s k
    owner_in_hand s i = by_stored (stored_in hands k) refl where
      among : at (owners_of schema capacity db k) s ≡ owner_of schema capacity db s k
      among =
          let within = of_range (length schema.sets) 0 s i in
          let below = within.1 in
          get_or-map-range_with_len (λ s. owner_of schema capacity db s k) 0 (length schema.sets) s s None (omega arith) (omega arith)

      by_stored : (r : Option Stored) → stored_in hands k ≡ r → owner_of schema capacity db s k ≡ option_and_then (λ (r : Stored). at r.owners s) r
      by_stored (Some stored) e = sym among ∙ ap (λ owners. at owners s) (sym (owners_in_hand stored e))
      by_stored None e = unlisted_has_no_owner schema capacity db agrees.legal s k (λ o m. false≢true (sym (live_in_hand ∙ ap is_some e) ∙ (agrees.legal.members s o k m).0))

  -- RINGS

  module _ (s : ℕ) (o : Owner) (held : holds hands.cells (Ring s (place_of o)) ≡ true) where
    -- the ring is one
    ring_is : (x : Cell) → shown x ≡ cell schema capacity db (Ring s (place_of o)) → RingValue (ring_in (shown x)) ≡ cell schema capacity db (Ring s (place_of o))
    unfolding cell
    ring_is x h = ap (λ (v : CellValue). RingValue (ring_in v)) h

    occurrence_is : (x : Cell) → cell_of (Ring s (place_of o)) hands.cells ≡ Some x → occurrence_in hands s o ≡ of_owner o (ring_in (shown x))
    occurrence_is x e = ap (occurrence_of o) e ∙ occurrence_shows o x

    pub list_in_hand : db.lists s o ≡ option_map (λ (r : Occurrence). map (λ (e : DbKey × Option Value). e.0) r.members) (occurrence_in hands s o)
    list_in_hand =
        let x = held_shows schema capacity db hands unit agrees (Ring s (place_of o)) held in
        ring_reads schema capacity db agrees.legal s o (ring_in (shown x.0)) (ring_is x.0 x.2)
        ∙ list_of o (ring_in (shown x.0)) ∙ ap (option_map (λ (r : Occurrence). map (λ (e : DbKey × Option Value). e.0) r.members)) (sym (occurrence_is x.0 x.1))

    pub listed_in_hand : is_some (db.lists s o) ≡ is_some (occurrence_in hands s o)
    listed_in_hand = ap is_some list_in_hand ∙ there (occurrence_in hands s o) where
      there : (r : Option Occurrence) → is_some (option_map (λ (r : Occurrence). map (λ (e : DbKey × Option Value). e.0) r.members) r) ≡ is_some r
      there None = refl
      there (Some r) = refl

    pub members_in_hand : members_of db s o ≡ keys_in (occurrence_in hands s o)
    members_in_hand = ap (λ (l : Option (List DbKey)). unwrap_or l []) list_in_hand ∙ there (occurrence_in hands s o) where
      there : (r : Option Occurrence) → unwrap_or (option_map (λ (r : Occurrence). map (λ (e : DbKey × Option Value). e.0) r.members) r) [] ≡ keys_in r
      there None = refl
      there (Some r) = refl

    -- the members with their sort keys
    pub entries_in_hand : members_in (occurrence_in hands s o) ≡ map (λ k. (k, sort_key schema db s k)) (members_of db s o)
    entries_in_hand = by_occurrence (occurrence_in hands s o) refl where
      by_occurrence : (r : Option Occurrence) → occurrence_in hands s o ≡ r → members_in r ≡ map (λ k. (k, sort_key schema db s k)) (members_of db s o)
      by_occurrence None e = sym (ap (map (λ k. (k, sort_key schema db s k))) (members_in_hand ∙ ap keys_in e))
      by_occurrence (Some r) e =
          let x = held_shows schema capacity db hands unit agrees (Ring s (place_of o)) held in
          let there = owned (ring_in (shown x.0)) r (sym (occurrence_is x.0 x.1) ∙ e) in
          ring_keys_read schema capacity db agrees.legal s o r (ap RingValue (sym there.0) ∙ ring_is x.0 x.2) there.1 where
            owned : (ring : Option Occurrence) (r : Occurrence) → of_owner o ring ≡ Some r → (ring ≡ Some r) × (owner_eq r.owner o ≡ true)
            owned None r h = cc
            owned (Some y) r h =
                elim (cases_Bool (owner_eq y.owner o)) [
                  | inl e ↦ let same : ◌≡◌ {A = Option Occurrence} (Some y) (Some r) = subst (λ b. cond b (Some y) None ≡ Some r) e h in (same, cc)
                  | inr e ↦ let none : ◌≡◌ {A = Option Occurrence} None (Some r) = subst (λ b. cond b (Some y) None ≡ Some r) e h in cc
                ]

    -- its ring answers as the database does
    pub same_occurrence : SameOccurrence (in_hand hands) (whole schema capacity db) s o
    same_occurrence = record {
      is_absent = same_none (db.lists s o) (occurrence_in hands s o) listed_in_hand;
      members = sym members_in_hand;
      has_sort_key = λ left v. ap (list_any (has_sort_key left v)) entries_in_hand ∙ any_map (λ k. (k, sort_key schema db s k)) (has_sort_key left v) (members_of db s o);
    }

  -- EXTENTS AND USAGE LISTS

  pub numbers_in_hand : (t : ℕ) → holds hands.cells (Extent t) ≡ true → numbers_in hands t ≡ map (number_of schema db t) (range_with_len 1 capacity)
  unfolding cell
  numbers_in_hand t held =
      let x = held_shows schema capacity db hands unit agrees (Extent t) held in
      ap numbers_of x.1 ∙ numbers_show x.0 ∙ ap extent_in x.2

  pub users_in_hand : (a : ℕ) → holds hands.cells (Usage a) ≡ true → users_in hands a ≡ db.usage a
  unfolding cell
  users_in_hand a held =
      let x = held_shows schema capacity db hands unit agrees (Usage a) held in
      ap users_of x.1 ∙ users_show x.0 ∙ ap usage_in x.2
