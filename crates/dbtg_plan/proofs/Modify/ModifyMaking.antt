-- What a MODIFY prepares changes only held cells, and can be made of them.
use Rattle.std.proofs.Common.{◌≡◌, refl, sym, ◌∙◌, ap, subst, ℕ, Bool, true, false, cond, not, ◌&&◌, List, [], ◌∷◌, ◌++◌, Option, Some, None, eqb, map, length, append_assoc, ⊎_elim}
use Rattle.std.specs.Prelude.{is_none, is_some, option_map, option_and_then, unwrap_or, slice_get}
use Rattle.std.specs.List.{find, flat_map, list_all, list_any, position_or_len}
use Rattle.std.proofs.lemmas.Bool.{and_from, false≢true}
use Rattle.std.proofs.lemmas.List.Folds.{find_at, list_all-append, list_all-map}
use Rattle.dbtg_schema.specs.Lists.{Lists}
use Rattle.dbtg_schema.specs.Lookups.{some_and}
use Rattle.dbtg_schema.specs.Sound.{IsSound, IsSoundSet}
use Rattle.dbtg_schema.specs.Structure.{order_of, pictures, set_numbers}
use Rattle.dbtg_schema.specs.WellFormed.{is_sorted}
use Rattle.dbtg_schema.specs.declared.shape.Member.{Member}
use Rattle.dbtg_schema.specs.declared.shape.Order.{Order}
use Rattle.dbtg_schema.specs.declared.shape.Order.TheVariants.{First, Last, Next, Prior, Sorted}
use Rattle.dbtg_schema.specs.declared.shape.SetType.{SetType}
use Rattle.dbtg_cells.specs.declared.cell.Cell.{Cell}
use Rattle.dbtg_cells.specs.declared.cell.Cell.TheVariants.{Usage as UsageCell, Extent as ExtentCell, Ring as RingCell, Slot as SlotCell}
use Rattle.dbtg_cells.specs.declared.key.DbKey.{DbKey}
use Rattle.dbtg_cells.specs.declared.key.Owner.{Owner}
use Rattle.dbtg_cells.specs.declared.key.Value.{Value}
use Rattle.dbtg_cells.specs.declared.name.CellName.TheVariants.{Extent, Ring}
use Rattle.dbtg_cells.specs.declared.ring.Occurrence.{Occurrence}
use Rattle.dbtg_cells.specs.Keys.{is_member}
use Rattle.dbtg_cells.specs.Members.{Entry, has_key, keys_in, members_in, with_members, without_key}
use Rattle.dbtg_cells.specs.Names.{name_eq}
use Rattle.dbtg_cells.specs.Numbers.{entry_of, is_used}
use Rattle.dbtg_unit.specs.declared.edit.CellEdit.{CellEdit}
use Rattle.dbtg_unit.specs.declared.edit.Edit.{Edit}
use Rattle.dbtg_unit.specs.declared.edit.Edit.TheVariants.{ChangeItems, ChangeNumber, RaiseVersion, ReplaceMember}
use Rattle.dbtg_unit.specs.declared.statement.Change.{Change}
use Rattle.dbtg_unit.specs.declared.unit.Unit.{Unit}
use Rattle.dbtg_unit.specs.Database.State.Base.{Database, calc_items, key_item, members_of, owner_of, sort_key}
use Rattle.dbtg_unit.specs.Hands.CanEdit.{CanEdit, CanPlace}
use Rattle.dbtg_unit.specs.Database.State.CellNames.{place_of, slot_name}
use Rattle.dbtg_unit.specs.Hands.PlanOf.{calc_edits, modify_edits, replacing_edits, ring_edits, slot_edit}
use Rattle.dbtg_unit.specs.Database.Statements.Effect.{names_calc, uses_position}
use Rattle.dbtg_unit.specs.Database.Statements.Fits.{values_fit}
use Rattle.dbtg_unit.specs.Database.Statements.Found.{is_lost}
use Rattle.dbtg_unit.specs.Hands.Hands.{Hands, cell_of}
use Rattle.dbtg_unit.specs.Hands.InHand.{in_hand, numbers_in, numbers_of, occurrence_in, owner_in}
use Rattle.dbtg_unit.specs.Database.State.Legal.{keys_in_order, pairwise}
use Rattle.dbtg_unit.specs.Hands.Local.{Agrees, holds}
use Rattle.dbtg_unit.specs.Hands.Making.{CanMake, HaveNextVersions}
use Rattle.dbtg_unit.specs.Database.Laws.Placing.{compares}
use Rattle.dbtg_unit.specs.Database.State.Units.{place_in}
use Rattle.dbtg_unit.proofs.Public.{EachCanEdit, In, all_at_entry, all_filter, are_distinct, are_of_others, can_make_raised, each_append, each_flat_map, entries_in_hand, items_leave_version, listed_in_hand, member_has_a_list as member_there, member_of_owner, members_in_hand, of_flat_map, owner_in_hand, pairwise_filter, range_distinct}
use Rattle.dbtg_plan.specs.Inside.Modifying.{is_rekeyed}
use Rattle.dbtg_plan.proofs.Modify.TwoTests.{flat_map_if}
use Rattle.dbtg_plan.proofs.Connect.PlacesDecide.{can_place, members_compare, pairwise_map}
use Rattle.dbtg_plan.proofs.Plans.ModifyHolds.{rekeyed_clause, rekeyed_number}
use Rattle.dbtg_plan.proofs.Plans.RingEdits.{can_edit_ring}
use Rattle.dbtg_plan.proofs.Store.StoreMaking.{distinct_append, distinct_flat_map, other_rings}

all_flat_map : {X Y : Type 0} (p : Y → Bool) (f : X → List Y) → ((x : X) → list_all p (f x) ≡ true) → (xs : List X) → list_all p (flat_map f xs) ≡ true
all_flat_map p f h [] = refl
all_flat_map p f h (x ∷ xs) = list_all-append p (f x) (flat_map f xs) ∙ and_from _ _ (h x) (all_flat_map p f h xs)

-- THE EDITS OF EACH SET

module _ (schema : Lists) (hands : Hands) (unit : Unit) (changes : List Change) (k : DbKey) (items : List Value) where
  abbrev pub edit_at : ℕ → Edit
  edit_at s = ReplaceMember (order_of schema s) (option_and_then (λ place. place.at) (place_in schema unit s)) k (key_item schema s k.rtype items)

  abbrev pub replacing : ℕ → List CellEdit
  replacing s = cond (is_rekeyed schema changes k.rtype s) (replacing_edits schema (in_hand hands) unit k items s) []

  abbrev pub replacing_all : List CellEdit
  replacing_all = flat_map replacing (set_numbers schema)

  abbrev pub calc_edit : CellEdit
  calc_edit = record { name = Extent k.rtype; edit = ChangeNumber k.number (calc_items schema k.rtype items) }

  -- there is none, or the one of the ring of the record's owner
  of_set : (P : List CellEdit → Type 0) (s : ℕ) → P [] → ((o : Owner) → is_rekeyed schema changes k.rtype s ≡ true → owner_in hands s k ≡ Some o → P (record { name = Ring s (place_of o); edit = edit_at s } ∷ [])) → P (replacing s)
  of_set P s none one = by_case (is_rekeyed schema changes k.rtype s) (owner_in hands s k) refl refl where
    by_case : (b : Bool) (o : Option Owner) → is_rekeyed schema changes k.rtype s ≡ b → owner_in hands s k ≡ o → P (cond b (ring_edits s o (edit_at s ∷ [])) [])
    by_case false o e is = none
    by_case true None e is = none
    by_case true (Some o) e is = one o e is

  -- there is none, or the one of the extent
  of_calc : (P : List CellEdit → Type 0) → P [] → (names_calc schema k.rtype changes ≡ true → P (calc_edit ∷ [])) → P (calc_edits schema changes k items)
  of_calc P none one = by_case (names_calc schema k.rtype changes) refl where
    by_case : (b : Bool) → names_calc schema k.rtype changes ≡ b → P (cond b (calc_edit ∷ []) [])
    by_case false e = none
    by_case true e = one e

  ring_name_of : (s : ℕ) (e : CellEdit) → In e (replacing s) → (q : Option (ℕ × ℕ)) × (e.name ≡ Ring s q)
  ring_name_of s =
      of_set (λ es. (e : CellEdit) → In e es → (q : Option (ℕ × ℕ)) × (e.name ≡ Ring s q)) s (λ e i. absurd i)
      (λ o replaced is e i. ⊎_elim (λ h. (place_of o, ap (λ (f : CellEdit). f.name) (sym h))) (λ j. absurd j) i)

  extent_name_of : (e : CellEdit) → In e (calc_edits schema changes k items) → e.name ≡ Extent k.rtype
  extent_name_of = of_calc (λ es. (e : CellEdit) → In e es → e.name ≡ Extent k.rtype) (λ e i. absurd i) (λ named e i. ⊎_elim (λ h. ap (λ (f : CellEdit). f.name) (sym h)) (λ j. absurd j) i)

  -- each is of a cell of its own, and none of the slot
  are_apart : are_distinct (calc_edits schema changes k items ++ replacing_all) ≡ true
  are_apart =
      distinct_append (calc_edits schema changes k items) replacing_all (of_calc (λ es. are_distinct es ≡ true) refl (λ named. refl))
      (distinct_flat_map replacing (set_numbers schema) (range_distinct 0 (length schema.sets)) (λ s. of_set (λ es. are_distinct es ≡ true) s refl (λ o replaced is. refl))
      (λ s u other e i f j.
      let a = ring_name_of s e i in
      let b = ring_name_of u f j in
      (λ d. name_eq (a.1 d) (b.1 d)) ∙ other_rings s u a.0 b.0 other))
      (λ e i f j.
      let from = of_flat_map replacing f (set_numbers schema) j in
      let b = ring_name_of from.0 f from.2 in
      λ d. name_eq (extent_name_of e i d) (b.1 d))

  are_off_slot : are_of_others (slot_name k) (calc_edits schema changes k items ++ replacing_all) ≡ true
  are_off_slot =
      list_all-append (λ (e : CellEdit). not (name_eq (slot_name k) e.name)) (calc_edits schema changes k items) replacing_all
      ∙ and_from _ _ (of_calc (λ es. are_of_others (slot_name k) es ≡ true) refl (λ named. refl))
      (all_flat_map (λ (e : CellEdit). not (name_eq (slot_name k) e.name)) replacing (λ s. of_set (λ es. are_of_others (slot_name k) es ≡ true) s refl (λ o replaced is. refl)) (set_numbers schema))

  abbrev pub slot_edits : List CellEdit
  slot_edits = slot_edit k (ChangeItems items) ∷ (slot_edit k RaiseVersion ∷ [])

  -- set by set they are those that are planned
  pub edits_are : calc_edits schema changes k items ++ (replacing_all ++ slot_edits) ≡ modify_edits schema (in_hand hands) unit changes k items
  edits_are =
      ap (λ (rings : List CellEdit). calc_edits schema changes k items ++ (rings ++ slot_edits))
      (flat_map_if (replacing_edits schema (in_hand hands) unit k items) (λ s. is_rekeyed schema changes k.rtype s) (set_numbers schema))

  -- THEIR CELLS ARE HELD

  pub edits_held : holds hands.cells (slot_name k) ≡ true → (names_calc schema k.rtype changes ≡ true → holds hands.cells (Extent k.rtype) ≡ true)
      → ((s : ℕ) (o : Owner) → is_rekeyed schema changes k.rtype s ≡ true → owner_in hands s k ≡ Some o → holds hands.cells (Ring s (place_of o)) ≡ true)
      → list_all (λ (e : CellEdit). holds hands.cells e.name) (modify_edits schema (in_hand hands) unit changes k items) ≡ true
  edits_held slot extent rings =
      let is_held : CellEdit → Bool = λ e. holds hands.cells e.name in
      ap (list_all is_held) (sym edits_are)
      ∙ list_all-append is_held (calc_edits schema changes k items) (replacing_all ++ slot_edits)
      ∙ and_from _ _ (of_calc (λ es. list_all is_held es ≡ true) refl (λ named. and_from _ _ (extent named) refl))
      (list_all-append is_held replacing_all slot_edits
      ∙ and_from _ _ (all_flat_map is_held replacing (λ s. of_set (λ es. list_all is_held es ≡ true) s refl (λ o named is. and_from _ _ (rings s o named is) refl)) (set_numbers schema)) (and_from _ _ slot (and_from _ _ slot refl)))

-- THAT THEY CAN BE MADE

-- a set in which a key item is named is sorted
rekeyed_sorted : (schema : Lists) → IsSound schema → (changes : List Change) (t s : ℕ) → is_rekeyed schema changes t s ≡ true → uses_position (order_of schema s) ≡ false
rekeyed_sorted schema sound changes t s h = of_set (slice_get schema.sets s) refl h where
  is_named : Option Member → Bool
  is_named m = some_and (λ (m : Member). some_and (λ i. list_any (λ j. eqb j i) (map (λ (c : Change). c.item) changes)) m.key) m

  of_order : (order : Order) → is_sorted order ≡ true → uses_position order ≡ false
  of_order First e = refl
  of_order Last e = refl
  of_order Next e = absurd (false≢true e)
  of_order Prior e = absurd (false≢true e)
  of_order (Sorted up duplicates) e = refl

  has_key_item : (m : Option Member) → some_and (λ (m : Member). some_and (λ i. list_any (λ j. eqb j i) (map (λ (c : Change). c.item) changes)) m.key) m ≡ true → (x : Member) × (m ≡ Some x) × (is_some x.key ≡ true)
  has_key_item None h = absurd (false≢true h)
  has_key_item (Some m) h = (m, refl, there m.key h) where
    there : (key : Option ℕ) → some_and (λ i. list_any (λ j. eqb j i) (map (λ (c : Change). c.item) changes)) key ≡ true → is_some key ≡ true
    there None h = h
    there (Some i) h = refl

  of_set : (set : Option SetType) → slice_get schema.sets s ≡ set
      → some_and (λ (m : Member). some_and (λ i. list_any (λ j. eqb j i) (map (λ (c : Change). c.item) changes)) m.key) (option_and_then (λ (x : SetType). find (λ member. eqb member.rtype t) x.members) (slice_get schema.sets s)) ≡ true
      → uses_position (unwrap_or (option_map (λ (x : SetType). x.order) (slice_get schema.sets s)) Last) ≡ false
  of_set None is h = ap (λ (o : Option SetType). uses_position (unwrap_or (option_map (λ (x : SetType). x.order) o) Last)) is
  of_set (Some set) is h =
      let its = all_at_entry (IsSoundSet schema) schema.sets s set sound.sets is in
      let m = has_key_item (find (λ member. eqb member.rtype t) set.members)
      (sym (ap (λ (o : Option SetType). some_and (λ (m : Member). some_and (λ i. list_any (λ j. eqb j i) (map (λ (c : Change). c.item) changes)) m.key) (option_and_then (λ (x : SetType). find (λ member. eqb member.rtype t) x.members) o)) is) ∙ h) in
      let keyed = all_at_entry (λ (c : Member). is_some c.key ≡ is_sorted set.order) set.members (position_or_len (λ member. eqb member.rtype t) set.members) m.0 its.keys (sym (find_at (λ member. eqb member.rtype t) set.members) ∙ m.1) in
      ap (λ (o : Option SetType). uses_position (unwrap_or (option_map (λ (x : SetType). x.order) o) Last)) is ∙ of_order set.order (sym keyed ∙ m.2)

module _ (schema : Lists) (capacity : ℕ) (db : Database) (hands : Hands) (unit : Unit) (agrees : Agrees schema capacity db hands unit)
    (changes : List Change) (k : DbKey) (items : List Value) (sound : IsSound schema) (fit : values_fit (pictures schema k.rtype) items ≡ true)
    (slot : holds hands.cells (slot_name k) ≡ true)
    (rings : (s : ℕ) (o : Owner) → is_rekeyed schema changes k.rtype s ≡ true → owner_of schema capacity db s k ≡ Some o → holds hands.cells (Ring s (place_of o)) ≡ true) where
  abbrev position_at : ℕ → Option DbKey
  position_at s = option_and_then (λ place. place.at) (place_in schema unit s)

  -- the record is a member, and without it the list has a place for it
  abbrev CanReplace : ℕ → Option Occurrence → Type 0
  CanReplace s occurrence = (is_member k (keys_in occurrence) ≡ true) × CanPlace (order_of schema s) (position_at s) (key_item schema s k.rtype items) (with_members (without_key k) occurrence)

  -- the occurrence of its owner is held
  occurrence_there : (s : ℕ) (o : Owner) → is_rekeyed schema changes k.rtype s ≡ true → owner_of schema capacity db s k ≡ Some o → is_some (occurrence_in hands s o) ≡ true
  occurrence_there s o named is =
      sym (listed_in_hand schema capacity db hands unit agrees s o (rings s o named is)) ∙ member_there k (db.lists s o) (member_of_owner schema capacity db agrees.legal s o k is)

  can_replace : (s : ℕ) (o : Owner) → is_rekeyed schema changes k.rtype s ≡ true → owner_of schema capacity db s k ≡ Some o → CanReplace s (occurrence_in hands s o)
  can_replace s o named is =
      let held = rings s o named is in
      let occurrence = occurrence_in hands s o in
      let entries = entries_in_hand schema capacity db hands unit agrees s o held in
      let compare : Entry → Bool = λ e. compares (order_of schema s) e.1 (key_item schema s k.rtype items) in
      let stand : Entry → Entry → Bool = λ x y. keys_in_order (order_of schema s) x.1 y.1 in
      let kinds : list_all compare (members_in occurrence) ≡ true =
      ap (list_all compare) entries ∙ list_all-map compare (λ x. (x, sort_key schema db s x)) (members_of db s o)
      ∙ members_compare schema capacity db agrees.legal sound s k.rtype o items (rekeyed_clause schema changes k.rtype s named) fit in
      let stands : pairwise stand (members_in occurrence) ≡ true =
      ap (pairwise stand) entries ∙ pairwise_map (λ x. (x, sort_key schema db s x)) stand (members_of db s o) ∙ agrees.legal.sorted s o in (
        ap (is_member k) (sym (members_in_hand schema capacity db hands unit agrees s o held)) ∙ member_of_owner schema capacity db agrees.legal s o k is,
        can_place (order_of schema s) (position_at s) (key_item schema s k.rtype items) (with_members (without_key k) occurrence)
            (there occurrence (occurrence_there s o named is))
            (ap (λ b. b && is_lost (position_at s) (keys_in (with_members (without_key k) occurrence))) (rekeyed_sorted schema sound changes k.rtype s named))
            (ap (list_all compare) (less occurrence) ∙ all_filter compare (λ (e : Entry). not (has_key k e)) (members_in occurrence) kinds)
            (ap (pairwise stand) (less occurrence) ∙ pairwise_filter stand (λ (e : Entry). not (has_key k e)) (members_in occurrence) stands),
      ) where
        there : (r : Option Occurrence) → is_some r ≡ true → is_none (with_members (without_key k) r) ≡ false
        there None h = absurd (false≢true h)
        there (Some r) h = refl

        less : (r : Option Occurrence) → members_in (with_members (without_key k) r) ≡ without_key k (members_in r)
        less None = refl
        less (Some r) = refl

  ring_can : (s : ℕ) → EachCanEdit (replacing schema hands unit changes k items s) hands.cells
  ring_can s =
      of_set schema hands unit changes k items (λ es. EachCanEdit es hands.cells) s tt
      (λ o named is.
      let owned = owner_in_hand schema capacity db hands unit agrees k slot s (rekeyed_number schema changes k.rtype s named) ∙ is in (
        can_edit_ring hands s o (edit_at schema hands unit changes k items s) (occurrence_there s o named owned)
            (λ v there same. subst (CanReplace s) (sym same) (can_replace s o named owned)),
        tt,
      ))

  calc_can : (names_calc schema k.rtype changes ≡ true → some_and is_used (entry_of k.number (numbers_in hands k.rtype)) ≡ true) → EachCanEdit (calc_edits schema changes k items) hands.cells
  calc_can numbered = of_calc schema hands unit changes k items (λ es. EachCanEdit es hands.cells) tt (λ named. (extent_can named, tt)) where
    extent_can : names_calc schema k.rtype changes ≡ true → (x : Cell) → cell_of (Extent k.rtype) hands.cells ≡ Some x → CanEdit (ChangeNumber k.number (calc_items schema k.rtype items)) x
    extent_can named (UsageCell u) h = tt
    extent_can named (RingCell r) h = tt
    extent_can named (SlotCell r) h = tt
    extent_can named (ExtentCell v) h = ap (λ (o : Option Cell). some_and is_used (entry_of k.number (numbers_of o))) (sym h) ∙ numbered named

  pub edits_can : HaveNextVersions hands.cells → (names_calc schema k.rtype changes ≡ true → some_and is_used (entry_of k.number (numbers_in hands k.rtype)) ≡ true) → CanMake (modify_edits schema (in_hand hands) unit changes k items) hands.cells
  edits_can versions numbered =
      let calc = calc_edits schema changes k items in
      let all = replacing_all schema hands unit changes k items in
      subst (λ es. CanMake es hands.cells) (append_assoc calc all (slot_edits schema hands unit changes k items) ∙ edits_are schema hands unit changes k items)
      (can_make_raised (calc ++ all) (slot_name k) (ChangeItems items) hands.cells (are_apart schema hands unit changes k items) (are_off_slot schema hands unit changes k items)
      (each_append calc all hands.cells (calc_can numbered) (each_flat_map (replacing schema hands unit changes k items) (set_numbers schema) hands.cells ring_can))
      (λ x there. tt) (items_leave_version items) versions)
