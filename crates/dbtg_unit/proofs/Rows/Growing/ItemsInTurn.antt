-- A shop in which item after item is stored, item n with the last digit of n as its quantity: what is there after each.
-- k is how many items are there, c one less than the capacity, which is at least 1.
use Rattle.std.proofs.Common.{◌≡◌, refl, sym, ◌∙◌, ap, subst, ℕ, zero, suc, ◌+◌, ◌<◌, ◌≤◌, ◌%◌, Bool, true, false, cond, not, ◌&&◌, ◌||◌, List, [], ◌∷◌, ◌++◌, Option, Some, None, map, inl, inr, arith}
use Rattle.std.specs.Prelude.{◌==◌, nat_le, nat_lt, filter, slice_index_or, unwrap_or, option_map, is_some, is_none, if◌then◌else◌}
use Rattle.std.specs.List.{find, flat_map, list_all, range_with_len}
use Rattle.std.proofs.lemmas.Bool.{and_from, and_right, cases_Bool, eqb-true, eqb-false, false≢true, ne_eqb, le-leb, leb-false, leb-true, lt-leb, le-ltb, lt-ltb}
use Rattle.std.proofs.lemmas.List.FromFn.{filter_of_map_range_with_len_more}
use Rattle.dbtg_schema.specs.Lookups.{first_cause}
use Rattle.dbtg_schema.specs.Structure.{automatic_sets, order_of}
use Rattle.dbtg_schema.specs.declared.shape.Duplicates.TheVariants.{Last as LastAmongEqual}
use Rattle.dbtg_cells.specs.declared.key.DbKey.{DbKey}
use Rattle.dbtg_cells.specs.declared.key.Owner.{Owner}
use Rattle.dbtg_cells.specs.declared.key.Owner.TheVariants.{System, Rec}
use Rattle.dbtg_cells.specs.declared.key.Value.{Value}
use Rattle.dbtg_cells.specs.declared.key.Value.TheVariants.{Num}
use Rattle.dbtg_cells.specs.declared.usage.Mode.{Mode}
use Rattle.dbtg_cells.specs.declared.usage.Mode.TheVariants.{Update}
use Rattle.dbtg_cells.specs.Keys.{key_eq, owner_eq}
use Rattle.dbtg_cells.specs.Placed.{placed}
use Rattle.dbtg_cells.proofs.Public.{either_way, key_eq_refl, same_key}
use Rattle.dbtg_unit.specs.declared.statement.Statement.{Statement}
use Rattle.dbtg_unit.specs.declared.unit.Cause.TheVariants.{DuplicatesNotAllowed, NoRoom}
use Rattle.dbtg_unit.specs.declared.unit.Unit.{Unit}
use Rattle.dbtg_unit.specs.Database.State.Base.{Database, Record, is_live, is_member, key_at, key_item, live_keys, members_of, owner_of, sort_key}
use Rattle.dbtg_unit.specs.Database.Statements.StoredFacts.{whole}
use Rattle.dbtg_unit.specs.Database.Statements.Effect.{StatementEffect, calc_taken, comes_before, connected_in, done, effect, free_number, joined, new_key, place_checks, spot, stored, unless_refused, with_new}
use Rattle.dbtg_unit.specs.Database.Laws.Replay.{State, after_effect, answers, effect_of_unit, state_after}
use Rattle.dbtg_unit.specs.Database.State.Units.{owners_of, seen, seen_with}
use Rattle.dbtg_unit.proofs.Lists.Listing.{any_placed}
use Rattle.dbtg_unit.proofs.Lists.RangeFilters.{all_kept_in_range, first_in_range, joins_its_block, none_in_range}
use Rattle.dbtg_unit.proofs.Rows.Defined.Schemas.{shop, main, side, customers, orders, items, has, lines}
use Rattle.dbtg_unit.proofs.Rows.Words.{by, customer_key, found, item_key, member, nothing, ordr_key, store, text, unit}

-- WHAT IS THERE

-- the items of item n
abbrev pub the_items : ℕ → List Value
the_items n = text "    " ∷ Num (n % 10) ∷ []

abbrev pub store_item : ℕ → Statement
store_item n = store items (the_items n)

-- items 1 to k
abbrev pub first_items : ℕ → List DbKey
first_items k = map item_key (range_with_len 1 k)

-- those of items 1 to k that have this quantity, in the order of storing
abbrev pub of_quantity : ℕ → ℕ → List DbKey
of_quantity k digit = filter (λ x. x.number % 10 == digit) (first_items k)

-- items 1 to k by quantity, and among equals in the order of storing
unfoldable pub by_quantity : ℕ → List DbKey
by_quantity k = flat_map (of_quantity k) (range_with_len 0 10)

-- n is one of 1 to k
abbrev pub is_upto : ℕ → ℕ → Bool
is_upto k n = nat_le 1 n && nat_le n k

-- the key of one of items 1 to k
abbrev pub is_item_upto : ℕ → DbKey → Bool
is_item_upto k x = (2 == x.rtype && 1 == x.generation) && is_upto k x.number

-- a record that was never changed
abbrev pub there : List Value → Option Record
there values = Some (record { items = values; version = 1 })

abbrev pub the_first_records : DbKey → Option Record
the_first_records x =
    if key_eq (ordr_key 1) x then there (Num 1 ∷ []) else if key_eq (customer_key 1) x then there (Num 7 ∷ text "ADA     " ∷ []) else None

abbrev pub the_records : ℕ → DbKey → Option Record
the_records k x = if is_item_upto k x then there (the_items x.number) else the_first_records x

abbrev pub the_lists : ℕ → ℕ → Owner → Option (List DbKey)
the_lists k zero o = if owner_eq (Rec (customer_key 1)) o then Some (ordr_key 1 ∷ []) else None
the_lists k (suc zero) o = if owner_eq (Rec (ordr_key 1)) o then Some (by_quantity k) else None
the_lists k (suc (suc zero)) o = if owner_eq o System then Some [] else None
the_lists k (suc (suc (suc s))) o = None

abbrev pub the_first_last : ℕ → ℕ → ℕ
the_first_last t n = if t == orders && n == 1 then 1 else if t == customers && n == 1 then 1 else 0

abbrev pub the_last : ℕ → ℕ → ℕ → ℕ
the_last k t n = if t == items && is_upto k n then 1 else the_first_last t n

abbrev pub the_usage : ℕ → List (ℕ × Mode)
the_usage a = if a == side then (1, Update) ∷ [] else if a == main then (1, Update) ∷ [] else []

-- a customer, his order, and items 1 to k
unfoldable pub shop_with : ℕ → Database
shop_with k = record { records = the_records k; lists = the_lists k; last = the_last k; usage = the_usage }

-- the unit whose current is this record, with this item as the last
abbrev pub unit_at : DbKey → Option DbKey → Unit
unit_at current last =
    unit 1 (Some current) (Some (customer_key 1) ∷ Some (ordr_key 1) ∷ last ∷ [])
    (member (customer_key 1) (ordr_key 1) ∷ Some (record { owner = Rec (ordr_key 1); at = last }) ∷ None ∷ [])
    (Some (ordr_key 1) ∷ last ∷ []) (Some Update ∷ Some Update ∷ []) []

-- after the order, or after item k
abbrev pub unit_after : ℕ → Unit
unit_after zero = unit_at (ordr_key 1) None
unit_after (suc k) = unit_at (item_key (suc k)) (Some (item_key (suc k)))

-- NUMBERS

upto : (k n : ℕ) → 1 ≤ n → n ≤ k → is_upto k n ≡ true
upto k n above below = and_from _ _ (le-leb 1 n above) (le-leb n k below)

beyond : (k n : ℕ) → k < n → is_upto k n ≡ false
beyond k n above = and_right (nat_le 1 n) _ (lt-leb n k above)

pub none_yet : (n : ℕ) → is_upto 0 n ≡ false
none_yet zero = refl
none_yet (suc n) = beyond 0 (suc n) (omega arith)

-- the next number is the only one that comes in
same_upto : (k n : ℕ) → (suc k ≡ n → ⊥) → is_upto (suc k) n ≡ is_upto k n
same_upto k n other =
    elim (cases_Bool (nat_le n k)) [
      | inl e ↦ ap (λ b. nat_le 1 n && b) (le-leb n (suc k) (omega (arith, leb-true n k e)) ∙ sym e)
      | inr e ↦ ap (λ b. nat_le 1 n && b) (lt-leb n (suc k) (omega (arith, leb-false n k e, other)) ∙ sym e)
    ]

-- a key apart from the new one is another item's, or no item's
apart : (a b g : Bool) → b ≡ true → ((a && b) && g) ≡ false → (a && g) ≡ false
apart true true g e h = h
apart false true g e h = refl
apart a false g e h = absurd (false≢true e)

other_item : (k : ℕ) (x : DbKey) → key_eq (item_key (suc k)) x ≡ false → is_item_upto (suc k) x ≡ is_item_upto k x
other_item k x other =
    elim (cases_Bool (suc k == x.number)) [
      | inl e ↦
          let no_item = apart (2 == x.rtype) (suc k == x.number) (1 == x.generation) e other in
          ap (λ b. b && is_upto (suc k) x.number) no_item ∙ sym (ap (λ b. b && is_upto k x.number) no_item)
      | inr e ↦ ap (λ b. (2 == x.rtype && 1 == x.generation) && b) (same_upto k x.number (eqb-false (suc k) x.number e))
    ]

-- THE STATE BEFORE A STORE

pub live_customers : (c k : ℕ) → live_keys (suc c) (shop_with k) customers ≡ customer_key 1 ∷ []
unfolding shop_with
live_customers c k =
    ap (λ ks. customer_key 1 ∷ ks) (none_in_range (is_live (shop_with k)) (key_at (shop_with k) customers) 2 c (λ j above below.
    ap (λ b. is_some (cond (b && 1 == the_last k customers j) (there (Num 7 ∷ text "ADA     " ∷ [])) None)) (ne_eqb 1 j (λ e. omega (arith, e, above)))))

pub live_orders : (c k : ℕ) → live_keys (suc c) (shop_with k) orders ≡ ordr_key 1 ∷ []
unfolding shop_with
live_orders c k =
    ap (λ ks. ordr_key 1 ∷ ks) (none_in_range (is_live (shop_with k)) (key_at (shop_with k) orders) 2 c (λ j above below.
    ap (λ b. is_some (cond (b && 1 == the_last k orders j) (there (Num 1 ∷ [])) None)) (ne_eqb 1 j (λ e. omega (arith, e, above)))))

-- whether a number is free depends on whether its item is there
abbrev is_free : ℕ → Bool → Bool
is_free n stored = not (is_some (cond (1 == cond stored 1 0 && stored) (there (the_items n)) None)) && nat_lt (cond stored 1 0) 255

next_is_free : (c k : ℕ) → k < suc c → free_number (suc c) (shop_with k) items ≡ Some (suc k)
unfolding shop_with
next_is_free c k room =
    first_in_range (λ n. not (is_live (shop_with k) (key_at (shop_with k) items n)) && nat_lt ((shop_with k).last items n) 255) 1 (suc c) (suc k)
    (omega arith) (omega (arith, room))
    (λ i over under. ap (is_free i) (upto k i over (omega (arith, under))))
    (ap (is_free (suc k)) (beyond k (suc k) (omega arith)))

next_key : (k : ℕ) → new_key (shop_with k) items (suc k) ≡ item_key (suc k)
unfolding shop_with
next_key k = ap (λ b. record { rtype = 2; number = suc k; generation = cond b 1 0 + 1 }) (beyond k (suc k) (omega arith))

-- THE DATABASE AFTER IT

module _ (k : ℕ) where
  abbrev new_item : DbKey
  new_item = item_key (suc k)

  -- with the record, before it is connected
  abbrev grown : Database
  grown = with_new shop (shop_with k) new_item (the_items (suc k))

  records_more : (x : DbKey) → grown.records x ≡ (shop_with (suc k)).records x
  unfolding shop_with
  records_more x =
      elim (cases_Bool (key_eq new_item x)) [
        | inl e ↦ subst (λ (y : DbKey). grown.records y ≡ (shop_with (suc k)).records y) (same_key new_item x e) at_new
        | inr e ↦
            ap (λ b. cond b (there (the_items (suc k))) (the_records k x)) e
            ∙ ap (λ b. cond b (there (the_items x.number)) (the_first_records x)) (sym (other_item k x e))
      ] where
        at_new : grown.records new_item ≡ (shop_with (suc k)).records new_item
        at_new =
            ap (λ b. cond b (there (the_items (suc k))) (the_records k new_item)) (key_eq_refl new_item)
            ∙ ap (λ b. cond b (there (the_items (suc k))) None) (sym (upto (suc k) (suc k) (omega arith) (omega arith)))

  last_more : (t n : ℕ) → grown.last t n ≡ (shop_with (suc k)).last t n
  unfolding shop_with
  last_more t n =
      elim (cases_Bool (t == items)) [
        | inl e ↦
            ap (λ b. cond (b && n == suc k) 1 (cond (b && is_upto k n) 1 (the_first_last t n))) e
            ∙ of_items
            ∙ sym (ap (λ b. cond (b && is_upto (suc k) n) 1 (the_first_last t n)) e)
        | inr e ↦
            ap (λ b. cond (b && n == suc k) 1 (cond (b && is_upto k n) 1 (the_first_last t n))) e
            ∙ sym (ap (λ b. cond (b && is_upto (suc k) n) 1 (the_first_last t n)) e)
      ] where
        of_items : cond (n == suc k) 1 (cond (is_upto k n) 1 (the_first_last t n)) ≡ cond (is_upto (suc k) n) 1 (the_first_last t n)
        of_items =
            elim (cases_Bool (n == suc k)) [
              | inl f ↦
                  let new : n ≡ suc k = eqb-true n (suc k) f in
                  ap (λ b. cond b 1 (cond (is_upto k n) 1 (the_first_last t n))) f
                  ∙ sym (ap (λ b. cond b 1 (the_first_last t n)) (upto (suc k) n (omega (arith, new)) (omega (arith, new))))
              | inr f ↦
                  ap (λ b. cond b 1 (cond (is_upto k n) 1 (the_first_last t n))) f
                  ∙ sym (ap (λ b. cond b 1 (the_first_last t n)) (same_upto k n (λ e. eqb-false n (suc k) f (sym e))))
            ]

  -- the sort key of an item is its quantity
  quantity : (n : ℕ) → 1 ≤ n → n ≤ suc k → sort_key shop grown lines (item_key n) ≡ Some (Num (n % 10))
  unfolding shop_with
  quantity n above below =
      ap (λ r. Some (slice_index_or (unwrap_or (option_map (λ (r : Record). r.items) r) []) 1 (Num 0)))
      (records_more (item_key n) ∙ ap (λ b. cond b (there (the_items n)) None) (upto (suc k) n above below))

  abbrev comes_first : DbKey → Bool
  comes_first x = comes_before true LastAmongEqual (sort_key shop grown lines x) (sort_key shop grown lines new_item)

  comes_by_quantity : (n : ℕ) → 1 ≤ n → n < 1 + k → comes_first (item_key n) ≡ not (nat_lt (suc k % 10) (n % 10))
  comes_by_quantity n above below = λ i. comes_before true LastAmongEqual (quantity n above (omega (arith, below)) i) (quantity (suc k) (omega arith) (omega arith) i)

  lower : (d : ℕ) → d ≤ suc k % 10 → list_all comes_first (of_quantity k d) ≡ true
  lower d h =
      all_kept_in_range comes_first (λ x. x.number % 10 == d) item_key 1 k
      (λ j above below e. comes_by_quantity j above below ∙ ap not (le-ltb (suc k % 10) (j % 10) (omega (arith, h, eqb-true (j % 10) d e))))

  higher : (d : ℕ) → suc k % 10 < d → list_all (λ x. not (comes_first x)) (of_quantity k d) ≡ true
  higher d h =
      all_kept_in_range (λ x. not (comes_first x)) (λ x. x.number % 10 == d) item_key 1 k
      (λ j above below e. ap not (comes_by_quantity j above below ∙ ap not (lt-ltb (suc k % 10) (j % 10) (omega (arith, h, eqb-true (j % 10) d e)))))

  one_more_of : (d : ℕ) → of_quantity (suc k) d ≡ of_quantity k d ++ cond (suc k % 10 == d) (new_item ∷ []) []
  one_more_of d =
      let next : suc k ≡ k + 1 = omega arith in
      ap (λ j. filter (λ x. x.number % 10 == d) (map item_key (range_with_len 1 j))) next
      ∙ filter_of_map_range_with_len_more (λ x. x.number % 10 == d) item_key 1 k (suc k) (omega arith)

  -- the new item goes to the end of those of its quantity
  placed_more : (position : Option DbKey) → placed (spot (order_of shop lines) position (sort_key shop grown lines) new_item) new_item (by_quantity k) ≡ by_quantity (suc k)
  unfolding by_quantity
  placed_more position = joins_its_block comes_first new_item (of_quantity k) (of_quantity (suc k)) (suc k % 10) lower higher one_more_of 0 10 (omega arith) (omega arith)

  member_now : is_member new_item (by_quantity (suc k)) ≡ true
  member_now =
      ap (is_member new_item) (sym (placed_more None))
      ∙ any_placed (key_eq new_item) (spot (order_of shop lines) None (sort_key shop grown lines) new_item) new_item (by_quantity k)
      ∙ ap (λ b. b || is_member new_item (by_quantity k)) (key_eq_refl new_item)

  module _ (current : DbKey) (last : Option DbKey) where
    lists_more : (s : ℕ) (o : Owner) → (connected_in shop grown (unit_at current last) (lines ∷ []) new_item).lists s o ≡ (shop_with (suc k)).lists s o
    unfolding shop_with
    lists_more zero o = refl
    lists_more (suc zero) o =
        elim (owner_eq (Rec (ordr_key 1)) o)
        as (λ b. cond b (option_map (joined shop grown (unit_at current last) lines new_item) (cond b (Some (by_quantity k)) None)) (cond b (Some (by_quantity k)) None) ≡ cond b (Some (by_quantity (suc k))) None) [
          | true ↦ ap Some (placed_more last)
          | false ↦ refl
        ]
    lists_more (suc (suc zero)) o = refl
    lists_more (suc (suc (suc s))) o = either_way _ None

    connected_now : connected_in shop grown (unit_at current last) (automatic_sets shop items) new_item ≡ shop_with (suc k)
    unfolding shop_with
    connected_now = λ i. record { records = λ x. records_more x i; lists = λ s o. lists_more s o i; last = λ t n. last_more t n i; usage = the_usage }

-- THE UNIT AFTER IT

owners_now : (c k : ℕ) → owners_of shop (suc c) (shop_with (suc k)) (item_key (suc k)) ≡ None ∷ Some (Rec (ordr_key 1)) ∷ None ∷ []
unfolding shop_with
owners_now c k = λ i. of_customers i ∷ of_orders i ∷ None ∷ [] where
  of_customers : owner_of shop (suc c) (shop_with (suc k)) has (item_key (suc k)) ≡ None
  of_customers = ap (λ ks. find (λ o. is_member (item_key (suc k)) (members_of (shop_with (suc k)) has o)) (map Rec ks)) (live_customers c (suc k))

  of_orders : owner_of shop (suc c) (shop_with (suc k)) lines (item_key (suc k)) ≡ Some (Rec (ordr_key 1))
  of_orders =
      ap (λ ks. find (λ o. is_member (item_key (suc k)) (members_of (shop_with (suc k)) lines o)) (map Rec ks)) (live_orders c (suc k))
      ∙ ap (λ b. cond b (Some (Rec (ordr_key 1))) None) (member_now k)

-- THE STORE

module _ (c k : ℕ) (current : DbKey) (last : Option DbKey) where
  -- the outcome, by the number that is free
  abbrev outcome_at : Option ℕ → StatementEffect
  outcome_at free =
      unless_refused (shop_with k) (unit_at current last)
      (first_cause ((is_none free, NoRoom)
      ∷ (calc_taken shop (whole shop (suc c) (shop_with k)) items (the_items (suc k)) None, DuplicatesNotAllowed)
      ∷ flat_map (λ s. place_checks shop (whole shop (suc c) (shop_with k)) (unit_at current last) s (key_item shop s items (the_items (suc k)))) (automatic_sets shop items)))
      (stored shop (suc c) (shop_with k) (unit_at current last) (new_key (shop_with k) items (unwrap_or free 0)) (the_items (suc k)) nothing)

  by_free_number : effect shop (suc c) (shop_with k) (unit_at current last) (store_item (suc k)) ≡ outcome_at (free_number (suc c) (shop_with k) items)
  unfolding effect
  by_free_number = refl

  not_refused : outcome_at (Some (suc k)) ≡ stored shop (suc c) (shop_with k) (unit_at current last) (new_key (shop_with k) items (suc k)) (the_items (suc k)) nothing
  unfolding shop_with
  not_refused = refl

  pub store_one_more : k < suc c → effect shop (suc c) (shop_with k) (unit_at current last) (store_item (suc k))
      ≡ done (shop_with (suc k)) (unit_at (item_key (suc k)) (Some (item_key (suc k)))) (Some (item_key (suc k))) None
  store_one_more room =
      by_free_number
      ∙ ap outcome_at (next_is_free c k room)
      ∙ not_refused
      ∙ ap (λ key. stored shop (suc c) (shop_with k) (unit_at current last) key (the_items (suc k)) nothing) (next_key k)
      ∙ ap (λ db. done db (seen shop (suc c) db (unit_at current last) (item_key (suc k)) nothing) (Some (item_key (suc k))) None) (connected_now k current last)
      ∙ ap (λ owners. done (shop_with (suc k)) (seen_with shop (unit_at current last) (item_key (suc k)) owners nothing) (Some (item_key (suc k))) None) (owners_now c k)

-- STORE AFTER STORE

abbrev pub state_with : ℕ → State
state_with k = record { database = shop_with k; units = unit_after k ∷ [] }

-- n items from item a on
abbrev pub store_items : ℕ → ℕ → List (ℕ × Statement)
store_items a n = by 1 (map store_item (range_with_len a n))

store_next : (c k : ℕ) → k < suc c → effect_of_unit shop (suc c) (state_with k) 1 (store_item (suc k)) ≡ Some (done (shop_with (suc k)) (unit_after (suc k)) (Some (item_key (suc k))) None)
store_next c zero room = ap Some (store_one_more c zero (ordr_key 1) None room)
store_next c (suc k) room = ap Some (store_one_more c (suc k) (item_key (suc k)) (Some (item_key (suc k))) room)

module _ (c : ℕ) (rest : List (ℕ × Statement)) where
  -- from k items on, as far as there is room
  pub state_after_items : (k n : ℕ) → k + n ≤ suc c → state_after shop (suc c) (state_with k) (store_items (suc k) n ++ rest) ≡ state_after shop (suc c) (state_with (k + n)) rest
  state_after_items k zero room = let same : k ≡ k + 0 = omega arith in ap (λ j. state_after shop (suc c) (state_with j) rest) same
  state_after_items k (suc n) room =
      let next : suc k + 1 ≡ suc (suc k) = omega arith in
      let whole : suc k + n ≡ k + suc n = omega arith in
      ap (λ outcome. state_after shop (suc c) (after_effect (state_with k) 1 outcome) (store_items (suc k + 1) n ++ rest)) (store_next c k (omega (arith, room)))
      ∙ ap (λ a. state_after shop (suc c) (state_with (suc k)) (store_items a n ++ rest)) next
      ∙ state_after_items (suc k) n (omega (arith, room))
      ∙ ap (λ j. state_after shop (suc c) (state_with j) rest) whole

  pub answers_to_items : (k n : ℕ) → k + n ≤ suc c → answers shop (suc c) (state_with k) (store_items (suc k) n ++ rest) ≡ map found (map item_key (range_with_len (suc k) n)) ++ answers shop (suc c) (state_with (k + n)) rest
  answers_to_items k zero room = let same : k ≡ k + 0 = omega arith in ap (λ j. answers shop (suc c) (state_with j) rest) same
  answers_to_items k (suc n) room =
      let next : suc k + 1 ≡ suc (suc k) = omega arith in
      let whole : suc k + n ≡ k + suc n = omega arith in
      ap (λ outcome. option_map (λ (o : StatementEffect). o.answer) outcome ∷ answers shop (suc c) (after_effect (state_with k) 1 outcome) (store_items (suc k + 1) n ++ rest)) (store_next c k (omega (arith, room)))
      ∙ ap (λ a. found (item_key (suc k)) ∷ answers shop (suc c) (state_with (suc k)) (store_items a n ++ rest)) next
      ∙ ap (λ others. found (item_key (suc k)) ∷ others) (answers_to_items (suc k) n (omega (arith, room)))
      ∙ ap (λ j. found (item_key (suc k)) ∷ (map found (map item_key (range_with_len (suc (suc k)) n)) ++ answers shop (suc c) (state_with j) rest)) whole
      ∙ ap (λ a. found (item_key (suc k)) ∷ (map found (map item_key (range_with_len a n)) ++ answers shop (suc c) (state_with (k + suc n)) rest)) (sym next)
