-- What a part says determines what its cell shows, but for the order in which units opened an area.
-- db and eb are databases, c the name of a cell, t a record type, k a number of a record, s a set, n a number of units.
use Rattle.std.proofs.Common.{◌≡◌, append-nil, append_assoc, refl, sym, ◌∙◌, ap, ℕ, zero, suc, ◌<◌, ◌≤◌, arith, Bool, true, false, List, [], ◌∷◌, ◌++◌, length, Option, Some, None}
use Rattle.std.specs.Prelude.{◌==◌, not, ◌||◌, flat_map, is_some, option_map, option_to_list, unwrap_or, if◌then◌else◌}
use Rattle.std.specs.List.{list_any, range_with_len}
use Rattle.std.proofs.lemmas.Bool.{false≢true, ne_eqb}
use Rattle.std.proofs.lemmas.List.{length-map}
use Rattle.dbtg_schema.specs.Lists.{Lists}
use Rattle.dbtg_cells.specs.Numbers.{last_of}
use Rattle.dbtg_cells.specs.Shown.{ExtentValue, RingValue, SlotValue}
use Rattle.dbtg_cells.specs.declared.extent.Number.{Number}
use Rattle.dbtg_cells.specs.declared.key.DbKey.{DbKey}
use Rattle.dbtg_cells.specs.declared.key.Owner.TheVariants.{System, Rec}
use Rattle.dbtg_cells.specs.declared.key.Value.{Value}
use Rattle.dbtg_cells.specs.declared.name.CellName.{CellName}
use Rattle.dbtg_cells.specs.declared.name.CellName.TheVariants.{Usage, Extent, Ring, Slot}
use Rattle.dbtg_cells.specs.declared.ring.Occurrence.{Occurrence}
use Rattle.dbtg_cells.specs.declared.slot.Stored.{Stored}
use Rattle.dbtg_cells.specs.declared.usage.Mode.{Mode}
use Rattle.dbtg_cells.proofs.Public.{mapped_in_range}
use Rattle.dbtg_unit.specs.Database.State.Base.{Database}
use Rattle.dbtg_unit.specs.Database.State.Cells.{cell, number_of}
use Rattle.dbtg_unit.proofs.Public.{extent_in}
use Rattle.dbtg_step.specs.Core.Reversible.{OnlyChanged, is_named}
use Rattle.dbtg_states.specs.Users.{by_unit}
use Rattle.dbtg_states.specs.Parts.{number_numbers, occurrence_numbers, record_numbers, shown_numbers, up_to_used, was_used}
use Rattle.dbtg_states.specs.Spelling.{Apart, key_numbers, list_numbers, mode_numbers, one_number, option_numbers, owner_numbers, pair_numbers, value_numbers}
use Rattle.dbtg_states.specs.Inside.Spelling.{key_apart, list_apart, mode_apart, one_apart, option_apart, owner_apart, pair_apart, value_apart}

-- THINGS THAT ARE SPELLED ONE AFTER ANOTHER

-- at least one number is written for each thing
abbrev IsNeverEmpty : {X : Type 0} → (X → List ℕ) → Type 0
IsNeverEmpty {X} f = (x : X) (r : List ℕ) → f x ++ r ≡ [] → ⊥

flat_apart : {X : Type 0} (f : X → List ℕ) → Apart f → IsNeverEmpty f → (xs ys : List X) → flat_map f xs ≡ flat_map f ys → xs ≡ ys
flat_apart f h some [] [] e = refl
flat_apart f h some [] (y ∷ ys) e = absurd (some y (flat_map f ys) (sym e))
flat_apart f h some (x ∷ xs) [] e = absurd (some x (flat_map f xs) e)
flat_apart f h some (x ∷ xs) (y ∷ ys) e =
    let both = h x y (flat_map f xs) (flat_map f ys) e in
    let rest = flat_apart f h some xs ys both.1 in
    λ i. both.0 i ∷ rest i

-- one thing or none
one_apart_from_none : {X : Type 0} (f : X → List ℕ) → ((x y : X) → f x ≡ f y → x ≡ y) → IsNeverEmpty f → (x y : Option X) → flat_map f (option_to_list x) ≡ flat_map f (option_to_list y) → x ≡ y
one_apart_from_none f h some None None e = refl
one_apart_from_none f h some None (Some y) e = absurd (some y [] (sym e))
one_apart_from_none f h some (Some x) None e = absurd (some x [] e)
one_apart_from_none f h some (Some x) (Some y) e = ap Some (h x y (sym (append-nil (f x)) ∙ e ∙ append-nil (f y)))

-- USERS

abbrev pub user_numbers : ℕ × Mode → List ℕ
user_numbers = pair_numbers one_number mode_numbers

user_some : IsNeverEmpty user_numbers
user_some x r e = cc

-- EXTENTS

number_apart : Apart number_numbers
number_apart x y a b e =
    let last : x.last ≡ y.last = cc in
    let rest : option_numbers (list_numbers value_numbers) x.calc ++ a ≡ option_numbers (list_numbers value_numbers) y.calc ++ b = cc in
    let calc = option_apart (list_numbers value_numbers) (list_apart value_numbers value_apart) x.calc y.calc a b rest in
    (λ i. record { last = last i; calc = calc.0 i }, calc.1)

number_some : IsNeverEmpty number_numbers
number_some x r e = cc

unused : (last : ℕ) (calc : Option (List Value)) → (not (last == 0) || is_some calc) ≡ false → (last ≡ 0) × (calc ≡ None)
unused zero None h = (refl, refl)
unused zero (Some values) h = absurd (false≢true (sym h))
unused (suc last) calc h = absurd (false≢true (sym h ∙ ap (λ b. not b || is_some calc) (ne_eqb (suc last) 0 (λ e. omega (arith, e)))))

-- two numbers that were never used are alike
unused_alike : (x y : Number) → was_used x ≡ false → was_used y ≡ false → x ≡ y
unused_alike x y h g =
    let a = unused x.last x.calc h in
    let b = unused y.last y.calc g in
    λ i. record { last = (a.0 ∙ sym b.0) i; calc = (a.1 ∙ sym b.1) i }

first_unused : (a b : Bool) → (a || b) ≡ false → (a ≡ false) × (b ≡ false)
first_unused true b h = absurd (false≢true (sym h))
first_unused false b h = (refl, h)

none_used : (ns : List Number) → list_any was_used ns ≡ false → up_to_used ns ≡ []
none_used [] h = refl
none_used (n ∷ ns) h = ap (λ b. if b then n ∷ up_to_used ns else []) h

up_to_first : (n : Number) (ns : List Number) (b : Bool) → list_any was_used (n ∷ ns) ≡ b → up_to_used (n ∷ ns) ≡ (if b then n ∷ up_to_used ns else [])
up_to_first n ns b h = ap (λ c. if c then n ∷ up_to_used ns else []) h

numbers_apart : (xs ys : List Number) → length xs ≡ length ys → up_to_used xs ≡ up_to_used ys → xs ≡ ys
numbers_apart [] [] l e = refl
numbers_apart [] (y ∷ ys) l e = absurd (omega (arith, l))
numbers_apart (x ∷ xs) [] l e = absurd (omega (arith, l))
numbers_apart (x ∷ xs) (y ∷ ys) l e = by (numbers_apart xs ys (omega (arith, l))) (list_any was_used (x ∷ xs)) (list_any was_used (y ∷ ys)) refl refl where
  by : (up_to_used xs ≡ up_to_used ys → xs ≡ ys) → (a b : Bool) → list_any was_used (x ∷ xs) ≡ a → list_any was_used (y ∷ ys) ≡ b → x ∷ xs ≡ y ∷ ys
  by rest true true h g =
      let both : x ∷ up_to_used xs ≡ y ∷ up_to_used ys = sym (up_to_first x xs true h) ∙ e ∙ up_to_first y ys true g in
      let head : x ≡ y = cc in
      let tail : up_to_used xs ≡ up_to_used ys = cc in
      λ i. head i ∷ rest tail i
  by rest true false h g = absurd (let both : x ∷ up_to_used xs ≡ [] = sym (up_to_first x xs true h) ∙ e ∙ up_to_first y ys false g in cc)
  by rest false true h g = absurd (let both : [] ≡ y ∷ up_to_used ys = sym (up_to_first x xs false h) ∙ e ∙ up_to_first y ys true g in cc)
  by rest false false h g =
      let a = first_unused (was_used x) (list_any was_used xs) h in
      let b = first_unused (was_used y) (list_any was_used ys) g in
      let head = unused_alike x y a.0 b.0 in
      λ i. head i ∷ rest (none_used xs a.1 ∙ sym (none_used ys b.1)) i

-- RINGS

abbrev pub member_numbers : DbKey × Option Value → List ℕ
member_numbers = pair_numbers key_numbers (option_numbers value_numbers)

member_some : IsNeverEmpty member_numbers
member_some x r e = cc

owner_some : IsNeverEmpty owner_numbers
owner_some System r e = cc
owner_some (Rec k) r e = cc

occurrence_some : IsNeverEmpty occurrence_numbers
occurrence_some o r e = owner_some o.owner (flat_map member_numbers o.members ++ r) (sym (append_assoc (owner_numbers o.owner) (flat_map member_numbers o.members) r) ∙ e)

occurrence_apart : (o p : Occurrence) → occurrence_numbers o ≡ occurrence_numbers p → o ≡ p
occurrence_apart o p e =
    let owner = owner_apart o.owner p.owner (flat_map member_numbers o.members) (flat_map member_numbers p.members) e in
    let members = flat_apart member_numbers (pair_apart key_numbers (option_numbers value_numbers) key_apart (option_apart value_numbers value_apart)) member_some o.members p.members owner.1 in
    λ i. record { owner = owner.0 i; members = members i }

-- SLOTS

owner_entry_some : IsNeverEmpty (option_numbers owner_numbers)
owner_entry_some None r e = cc
owner_entry_some (Some o) r e = cc

record_some : IsNeverEmpty (record_numbers true)
record_some x r e = cc

stored_apart : (r q : Stored) → record_numbers true r ≡ record_numbers true q → r ≡ q
stored_apart r q e =
    let generation : r.generation ≡ q.generation = cc in
    let version : r.version ≡ q.version = cc in
    let rest : list_numbers value_numbers r.items ++ flat_map (option_numbers owner_numbers) r.owners ≡ list_numbers value_numbers q.items ++ flat_map (option_numbers owner_numbers) q.owners = cc in
    let items = list_apart value_numbers value_apart r.items q.items _ _ rest in
    let owners = flat_apart (option_numbers owner_numbers) (option_apart owner_numbers owner_apart) owner_entry_some r.owners q.owners items.1 in
    λ i. record { generation = generation i; version = version i; items = items.0 i; owners = owners i }

-- CELLS

-- the name of a usage cell
abbrev pub is_usage : CellName → Bool
is_usage (Usage a) = true
is_usage (Extent t) = false
is_usage (Ring s o) = false
is_usage (Slot t k) = false

module _ (schema : Lists) (capacity n : ℕ) (db eb : Database) where
  -- cells whose parts are the same show the same
  pub same_shown : (c : CellName) → is_usage c ≡ false → shown_numbers true n (cell schema capacity db c) ≡ shown_numbers true n (cell schema capacity eb c) → cell schema capacity db c ≡ cell schema capacity eb c
  unfolding cell
  same_shown (Usage a) h e = absurd (false≢true (sym h))
  same_shown (Extent t) h e =
      let long = length-map (range_with_len 1 capacity) (number_of schema db t) in
      let long' = length-map (range_with_len 1 capacity) (number_of schema eb t) in
      ap ExtentValue (numbers_apart _ _ (long ∙ sym long') (flat_apart number_numbers number_apart number_some _ _ e))
  same_shown (Ring s o) h e = ap RingValue (one_apart_from_none occurrence_numbers occurrence_apart occurrence_some _ _ e)
  same_shown (Slot t k) h e = ap SlotValue (one_apart_from_none (record_numbers true) stored_apart record_some _ _ e)

  -- areas whose parts are the same have the same users, but for the order of opening
  pub same_by_unit : (a : ℕ) → shown_numbers true n (cell schema capacity db (Usage a)) ≡ shown_numbers true n (cell schema capacity eb (Usage a)) → by_unit (range_with_len 1 n) (db.usage a) ≡ by_unit (range_with_len 1 n) (eb.usage a)
  unfolding cell
  same_by_unit a e = flat_apart user_numbers (pair_apart one_number mode_numbers one_apart mode_apart) user_some (by_unit (range_with_len 1 n) (db.usage a)) (by_unit (range_with_len 1 n) (eb.usage a)) e

-- the last generation of a number is read from its extent
pub last_shown : (schema : Lists) (capacity : ℕ) (db : Database) (t k : ℕ) → 0 < k → k ≤ capacity → last_of k (extent_in (cell schema capacity db (Extent t))) ≡ db.last t k
unfolding cell
last_shown schema capacity db t zero low high = absurd (omega (arith, low))
last_shown schema capacity db t (suc i) low high =
    ap (λ (e : Option Number). unwrap_or (option_map (λ (x : Number). x.last) e) 0) (mapped_in_range (number_of schema db t) 1 capacity i (omega (arith, high))) ∙ ap (db.last t) (omega arith)

-- where a cell is not changed, its part says the same, with versions or without
pub unchanged_shown : (versions : Bool) (schema : Lists) (capacity units : ℕ) (names : List CellName) (before after : Database) → OnlyChanged schema capacity names before after → (c : CellName) → is_named names c ≡ false
    → shown_numbers versions units (cell schema capacity after c) ≡ shown_numbers versions units (cell schema capacity before c)
unchanged_shown versions schema capacity units names before after only c free = ap (shown_numbers versions units) (only.cells c free)
