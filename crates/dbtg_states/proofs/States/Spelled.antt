-- How the numbers of an extent and the members of a ring are spelled one after another; and what a database with its history has.
-- d is a database with its history, ns are numbers of an extent, i is a place among them, k a key, s a set.
use Rattle.std.proofs.Common.{◌≡◌, append-nil, append_assoc, refl, sym, ◌∙◌, ap, subst, ℕ, zero, suc, ◌<◌, arith, Bool, true, false, List, [], ◌∷◌, ◌++◌, length, Option, Some, None, map, slice_get, take}
use Rattle.std.specs.Prelude.{◌==◌, not, ◌||◌, flat_map, option_and_then, option_map, option_to_list, unwrap_or, if◌then◌else◌}
use Rattle.std.specs.List.{list_all, list_any}
use Rattle.std.proofs.lemmas.Bool.{and_from, le-leb, lt-ltb}
use Rattle.std.proofs.lemmas.Option.{same_Some}
use Rattle.dbtg_schema.specs.Lists.{Lists}
use Rattle.dbtg_schema.specs.Lookups.{some_and}
use Rattle.dbtg_schema.specs.Sound.{IsSound}
use Rattle.dbtg_cells.specs.CellNumbers.{is_cell}
use Rattle.dbtg_cells.specs.Members.{keys_in}
use Rattle.dbtg_cells.specs.Numbers.{entry_of, is_used, last_of}
use Rattle.dbtg_cells.specs.Shown.{RingValue, SlotValue}
use Rattle.dbtg_cells.specs.declared.extent.Number.{Number}
use Rattle.dbtg_cells.specs.declared.key.DbKey.{DbKey}
use Rattle.dbtg_cells.specs.declared.key.Owner.{Owner}
use Rattle.dbtg_cells.specs.declared.name.CellName.{CellName}
use Rattle.dbtg_cells.specs.declared.name.CellName.TheVariants.{Usage, Extent, Ring, Slot}
use Rattle.dbtg_cells.specs.declared.ring.Occurrence.{Occurrence}
use Rattle.dbtg_cells.specs.declared.key.Value.{Value}
use Rattle.dbtg_unit.specs.Database.State.Base.{Database, Record, is_live, is_member, items_of, key_at, members_of, sort_key}
use Rattle.dbtg_unit.specs.Database.State.Cells.{cell, owner_at, ring_of, slot_of}
use Rattle.dbtg_unit.specs.Database.State.Legal.{Legal}
use Rattle.dbtg_unit.specs.Database.Laws.Replay.{IsHistoryOf, opening_state}
use Rattle.dbtg_unit.specs.Database.Laws.StaysLegal.{IsLegalState}
use Rattle.dbtg_unit.proofs.Public.{all_members, firsts_pairs, live_is_latest, opening_is_legal, replay_keeps_legal, ring_in}
use Rattle.dbtg_step.specs.Core.Whole.{Making, state_now}
use Rattle.dbtg_states.specs.Parts.{number_numbers, occurrence_numbers, up_to_used, was_used}
use Rattle.dbtg_states.specs.Inside.Items.{items_in}
use Rattle.dbtg_states.specs.Spelling.{key_numbers, list_numbers, option_numbers, owner_numbers, value_numbers}
use Rattle.dbtg_states.proofs.States.ShownParts.{member_numbers}

-- THE NUMBERS OF AN EXTENT

pub used_entry : (e : Option Number) → some_and was_used e ≡ (not (unwrap_or (option_map (λ (n : Number). n.last) e) 0 == 0) || some_and is_used e)
used_entry None = refl
used_entry (Some n) = refl

or_true : (a : Bool) → (a || true) ≡ true
or_true true = refl
or_true false = refl

or_false : (a : Bool) → (a || false) ≡ a
or_false true = refl
or_false false = refl

-- one more that was never used
any_same : (ns : List Number) (i : ℕ) → some_and was_used (slice_get ns i) ≡ false → list_any was_used (take (suc i) ns) ≡ list_any was_used (take i ns)
any_same [] zero h = refl
any_same [] (suc i) h = refl
any_same (n ∷ ns) zero h = ap (λ b. b || false) h
any_same (n ∷ ns) (suc i) h = ap (λ b. was_used n || b) (any_same ns i h)

unused_last : (ns : List Number) (i : ℕ) → some_and was_used (slice_get ns i) ≡ false → up_to_used (take (suc i) ns) ≡ up_to_used (take i ns)
unused_last [] zero h = refl
unused_last [] (suc i) h = refl
unused_last (n ∷ ns) zero h = ap (λ b. if b || false then n ∷ [] else []) h
unused_last (n ∷ ns) (suc i) h = λ j. if was_used n || any_same ns i h j then n ∷ unused_last ns i h j else []

-- one more that was used
any_used : (ns : List Number) (i : ℕ) → some_and was_used (slice_get ns i) ≡ true → list_any was_used (take (suc i) ns) ≡ true
any_used [] i h = absurd (cc)
any_used (n ∷ ns) zero h = ap (λ b. b || false) h
any_used (n ∷ ns) (suc i) h = ap (λ b. was_used n || b) (any_used ns i h) ∙ or_true (was_used n)

used_last : (ns : List Number) (i : ℕ) → some_and was_used (slice_get ns i) ≡ true → up_to_used (take (suc i) ns) ≡ take (suc i) ns
used_last [] i h = refl
used_last (n ∷ ns) zero h = ap (λ b. if b || false then n ∷ [] else []) h
used_last (n ∷ ns) (suc i) h =
    ap (λ b. if was_used n || b then n ∷ up_to_used (take (suc i) ns) else []) (any_used ns i h)
    ∙ ap (λ b. if b then n ∷ up_to_used (take (suc i) ns) else []) (or_true (was_used n))
    ∙ ap (λ l. n ∷ l) (used_last ns i h)

-- the last of the first numbers was never used
pub unused_dropped : (ns : List Number) (i j : ℕ) → suc j ≡ i → some_and was_used (entry_of i ns) ≡ false → up_to_used (take j ns) ≡ up_to_used (take i ns)
unused_dropped ns zero j e h = absurd (omega (arith, e))
unused_dropped ns (suc i) j e h = let same : j ≡ i = omega (arith, e) in ap (λ l. up_to_used (take l ns)) same ∙ sym (unused_last ns i h)

-- the last of the first numbers was used, or there are none
pub used_kept : (ns : List Number) (i : ℕ) → (0 < i → some_and was_used (entry_of i ns) ≡ true) → take i ns ≡ up_to_used (take i ns)
used_kept ns zero h = refl
used_kept ns (suc i) h = sym (used_last ns i (h (omega arith)))

number_more : (ns : List Number) (i : ℕ) → i < length ns
    → flat_map number_numbers (take i ns) ++ (last_of (suc i) ns ∷ option_numbers (list_numbers value_numbers) (option_and_then (λ e. e.calc) (slice_get ns i))) ≡ flat_map number_numbers (take (suc i) ns)
number_more [] i low = absurd (omega (arith, low))
number_more (n ∷ ns) zero low = sym (append-nil (number_numbers n))
number_more (n ∷ ns) (suc i) low = append_assoc (number_numbers n) (flat_map number_numbers (take i ns)) _ ∙ ap (λ l. number_numbers n ++ l) (number_more ns i (omega (arith, low)))

-- one number more is spelled
pub number_next : (ns : List Number) (i j : ℕ) (old mid new : List ℕ) → j ≡ suc i → i < length ns → mid ≡ old ++ flat_map number_numbers (take i ns)
    → new ≡ mid ++ (last_of j ns ∷ option_numbers (list_numbers value_numbers) (option_and_then (λ e. e.calc) (entry_of j ns))) → new ≡ old ++ flat_map number_numbers (take j ns)
number_next ns i zero old mid new e low h g = absurd (omega (arith, e))
number_next ns i (suc j) old mid new e low h g =
    let same : j ≡ i = omega (arith, e) in
    g ∙ ap (λ l. l ++ (last_of (suc j) ns ∷ option_numbers (list_numbers value_numbers) (option_and_then (λ e. e.calc) (slice_get ns j)))) (h ∙ ap (λ k. old ++ flat_map number_numbers (take k ns)) (sym same))
    ∙ append_assoc old _ _ ∙ ap (λ l. old ++ l) (number_more ns j (omega (arith, e, low)))

-- MEMBERS

module _ (f : DbKey → Option Value) where
  members_more : (ks : List DbKey) (i : ℕ) (k : DbKey) → slice_get ks i ≡ Some k → flat_map member_numbers (map (λ x. (x, f x)) (take i ks)) ++ member_numbers (k, f k) ≡ flat_map member_numbers (map (λ x. (x, f x)) (take (suc i) ks))
  members_more [] i k e = absurd (cc)
  members_more (x ∷ ks) zero k e = let same : k ≡ x = same_Some k x (sym e) in ap (λ (y : DbKey). member_numbers (y, f y)) same ∙ sym (append-nil (member_numbers (x, f x)))
  members_more (x ∷ ks) (suc i) k e = append_assoc (member_numbers (x, f x)) (flat_map member_numbers (map (λ y. (y, f y)) (take i ks))) (member_numbers (k, f k)) ∙ ap (λ l. member_numbers (x, f x) ++ l) (members_more ks i k e)

  -- one member more is spelled
  pub member_next : (ks : List DbKey) (i j : ℕ) (k : DbKey) (old mid one new : List ℕ) → j ≡ suc i → slice_get ks i ≡ Some k → mid ≡ old ++ flat_map member_numbers (map (λ x. (x, f x)) (take i ks)) → one ≡ mid ++ key_numbers k
      → new ≡ one ++ option_numbers value_numbers (f k) → new ≡ old ++ flat_map member_numbers (map (λ x. (x, f x)) (take j ks))
  member_next ks i j k old mid one new next at e g h =
      h ∙ ap (λ l. l ++ option_numbers value_numbers (f k)) (g ∙ ap (λ l. l ++ key_numbers k) e)
      ∙ append_assoc (old ++ flat_map member_numbers (map (λ x. (x, f x)) (take i ks))) (key_numbers k) (option_numbers value_numbers (f k))
      ∙ append_assoc old _ _ ∙ ap (λ l. old ++ l) (members_more ks i k at) ∙ ap (λ n. old ++ flat_map member_numbers (map (λ x. (x, f x)) (take n ks))) (sym next)

-- A LEGAL DATABASE

-- a database on which statements were made is legal, and so are its units
pub legal_making : (d : Making) → IsSound d.schema → IsHistoryOf d.schema d.capacity d.units d.history → IsLegalState d.schema d.capacity (state_now d)
legal_making d sound history = replay_keeps_legal d.schema d.capacity (opening_state d.schema d.units) d.history sound (opening_is_legal d.schema d.capacity d.units) history.fitting

module _ (schema : Lists) (capacity : ℕ) (db : Database) (legal : Legal schema capacity db) where
  -- a live record has a slot
  pub has_slot : (k : DbKey) → is_live db k ≡ true → is_cell schema capacity (Slot k.rtype k.number) ≡ true
  has_slot k h = let facts = legal.keys k h in and_from _ _ (lt-ltb k.rtype (length schema.types) facts.0) (and_from _ _ (lt-ltb 0 k.number facts.1) (le-leb k.number capacity facts.2))

  items_shown : (k : DbKey) (r : Option Record) → items_in (SlotValue (option_map (slot_of schema capacity db k) r)) ≡ unwrap_or (option_map (λ (x : Record). x.items) r) []
  items_shown k None = refl
  items_shown k (Some r) = refl

  -- which shows its items
  pub slot_has_items : (k : DbKey) → is_live db k ≡ true → items_in (cell schema capacity db (Slot k.rtype k.number)) ≡ items_of db k
  unfolding cell
  slot_has_items k h = items_shown (key_at db k.rtype k.number) (db.records (key_at db k.rtype k.number)) ∙ ap (items_of db) (live_is_latest schema capacity db legal k h)

  -- RINGS

  -- the members of an occurrence are live records, each with its sort key
  record AreMembers (s : ℕ) (o : Occurrence) (keys : List DbKey) : Type 0 where
    pub live : list_all (is_live db) keys ≡ true
    pub members : o.members ≡ map (λ k. (k, sort_key schema db s k)) keys

  all_live : (s : ℕ) (o : Owner) (ks : List DbKey) → members_of db s o ≡ ks → list_all (is_live db) ks ≡ true
  all_live s o ks e = all_members (is_live db) ks (λ k h. (legal.members s o k (ap (is_member k) e ∙ h)).0)

  of_list : (s : ℕ) (owner : Owner) (list : Option (List DbKey)) (o : Occurrence) → db.lists s owner ≡ list → Some o ≡ option_map (ring_of schema db s owner) list → AreMembers s o (keys_in (Some o))
  of_list s owner None o is e = absurd (cc)
  of_list s owner (Some ks) o is e =
      let same : o ≡ ring_of schema db s owner ks = same_Some o (ring_of schema db s owner ks) e in
      subst (λ (x : Occurrence). AreMembers s x (keys_in (Some x))) (sym same)
      (subst (λ (l : List DbKey). AreMembers s (ring_of schema db s owner ks) l) (sym (firsts_pairs (sort_key schema db s) ks)) (record { live = all_live s owner ks (ap (λ (l : Option (List DbKey)). unwrap_or l []) is); members = refl }))

  in_ring : (s : ℕ) (place : Option (ℕ × ℕ)) (o : Occurrence) → RingValue (Some o) ≡ cell schema capacity db (Ring s place) → AreMembers s o (keys_in (Some o))
  unfolding cell
  in_ring s place o shows = of_list s (owner_at db place) (db.lists s (owner_at db place)) o refl (ap ring_in shows)

  pub ring_live : (s : ℕ) (place : Option (ℕ × ℕ)) (o : Option Occurrence) → RingValue o ≡ cell schema capacity db (Ring s place) → list_all (is_live db) (keys_in o) ≡ true
  ring_live s place None shows = refl
  ring_live s place (Some o) shows = (in_ring s place o shows).live

  -- an owner is spelled, and then the members with their sort keys
  pub ring_spelled : (s : ℕ) (place : Option (ℕ × ℕ)) (o : Option Occurrence) (owner : Owner) (old one new : List ℕ) → RingValue o ≡ cell schema capacity db (Ring s place) → Some owner ≡ option_map (λ (x : Occurrence). x.owner) o → one ≡ old ++ owner_numbers owner
      → new ≡ one ++ flat_map member_numbers (map (λ k. (k, sort_key schema db s k)) (keys_in o)) → new ≡ old ++ flat_map occurrence_numbers (option_to_list o)
  ring_spelled s place None owner old one new shows is e f = absurd (cc)
  ring_spelled s place (Some o) owner old one new shows is e f =
      let members = (in_ring s place o shows).members in
      let same : owner ≡ o.owner = same_Some owner o.owner is in
      f ∙ ap (λ l. l ++ flat_map member_numbers (map (λ k. (k, sort_key schema db s k)) (keys_in (Some o)))) e
      ∙ append_assoc old (owner_numbers owner) _
      ∙ (λ i. old ++ (owner_numbers (same i) ++ flat_map member_numbers (sym members i)))
      ∙ ap (λ l. old ++ l) (sym (append-nil (occurrence_numbers o)))

-- only the cell of a ring shows one
pub ring_name : (schema : Lists) (capacity : ℕ) (db : Database) (c : CellName) (o : Option Occurrence) → RingValue o ≡ cell schema capacity db c → (s : ℕ) × (place : Option (ℕ × ℕ)) × (c ≡ Ring s place)
unfolding cell
ring_name schema capacity db (Usage a) o e = absurd (cc)
ring_name schema capacity db (Extent t) o e = absurd (cc)
ring_name schema capacity db (Ring s place) o e = (s, place, refl)
ring_name schema capacity db (Slot t n) o e = absurd (cc)
