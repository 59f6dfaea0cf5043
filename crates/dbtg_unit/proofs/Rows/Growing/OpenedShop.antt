-- A shop that is opened, with a customer, an order and items in turn, at any capacity.
-- c is one less than the capacity, which is at least 1.
use Rattle.dbtg_unit.specs.Database.Statements.StoredFacts.{whole}
use Rattle.std.proofs.Common.{◌≡◌, refl, sym, ◌∙◌, ap, subst, ℕ, zero, suc, ◌+◌, ◌≤◌, true, false, cond, ◌&&◌, List, [], ◌∷◌, ◌++◌, Option, Some, None, map, inl, inr, arith}
use Rattle.std.specs.Prelude.{◌==◌, filter, is_some, option_map, unwrap_or, if◌then◌else◌}
use Rattle.std.specs.List.{find, list_any}
use Rattle.std.proofs.lemmas.Bool.{and_right, cases_Bool, eqb-true, ne_eqb}
use Rattle.dbtg_schema.specs.Lists.{Lists}
use Rattle.dbtg_schema.specs.Lookups.{first_cause}
use Rattle.dbtg_cells.specs.declared.key.DbKey.{DbKey}
use Rattle.dbtg_cells.specs.declared.key.Owner.{Owner}
use Rattle.dbtg_cells.specs.declared.key.Owner.TheVariants.{Rec}
use Rattle.dbtg_cells.specs.declared.key.Value.{Value}
use Rattle.dbtg_cells.specs.declared.key.Value.TheVariants.{Num}
use Rattle.dbtg_cells.specs.declared.usage.Mode.TheVariants.{Update}
use Rattle.dbtg_cells.specs.Keys.{owner_eq, values_eq}
use Rattle.dbtg_cells.proofs.Public.{either_way}
use Rattle.dbtg_unit.specs.declared.statement.Statement.{Statement}
use Rattle.dbtg_unit.specs.declared.statement.Statement.TheVariants.{OpenArea, Store}
use Rattle.dbtg_unit.specs.declared.statement.Suppress.{Suppress}
use Rattle.dbtg_unit.specs.declared.unit.Answer.{Answer}
use Rattle.dbtg_unit.specs.declared.unit.Cause.TheVariants.{DuplicatesNotAllowed}
use Rattle.dbtg_unit.specs.declared.unit.Unit.{Unit}
use Rattle.dbtg_unit.specs.Database.State.Base.{Database, calc_items, is_live, is_member, items_of, key_at, live_keys, members_of, opening, owner_of}
use Rattle.dbtg_unit.specs.Database.Statements.Checks.{refused_at_once}
use Rattle.dbtg_unit.specs.Database.Statements.Effect.{StatementEffect, connected_in, done, effect, effect_on_cells, free_number, new_key, store_checks, stored, unless_refused, with_new}
use Rattle.dbtg_unit.specs.Database.Laws.Replay.{State, after_effect, answers, opening_state, state_after}
use Rattle.dbtg_unit.specs.Database.State.Units.{opening_unit, owners_of, seen, seen_with}
use Rattle.dbtg_unit.proofs.Lists.RangeFilters.{none_in_range}
use Rattle.dbtg_unit.proofs.Rows.Defined.Schemas.{shop, main, side, customers, orders, items, has, lines}
use Rattle.dbtg_unit.proofs.Rows.Growing.ItemsInTurn.{answers_to_items, by_quantity, first_items, live_customers, live_orders, none_yet, shop_with, state_after_items, state_with, store_items, the_first_last, the_first_records, the_items, the_last, the_lists, the_records, the_usage, there, unit_after}
use Rattle.dbtg_unit.proofs.Rows.Words.{by, customer_key, done as accepted, found, nothing, ordr_key, owner_itself, store, text, unit}

-- a STORE that no check refuses
pub store_passes : (schema : Lists) (capacity : ℕ) (db : Database) (unit : Unit) (t : ℕ) (values : List Value) (suppress : Suppress) (n : ℕ)
    → refused_at_once schema capacity unit (Store t values suppress) ≡ None → free_number capacity db t ≡ Some n → first_cause (store_checks schema (whole schema capacity db) unit t values) ≡ None
    → effect schema capacity db unit (Store t values suppress) ≡ stored schema capacity db unit (new_key db t n) values suppress
unfolding effect
store_passes schema capacity db unit t values suppress n ready free passes =
    ap (λ cause. unless_refused db unit cause (effect_on_cells schema capacity db unit (Store t values suppress))) ready
    ∙ ap (λ cause. unless_refused db unit cause (stored schema capacity db unit (new_key db t (unwrap_or (free_number capacity db t) 0)) values suppress)) passes
    ∙ ap (λ number. stored schema capacity db unit (new_key db t (unwrap_or number 0)) values suppress) free

-- THE STATES ON THE WAY

abbrev with_open : ℕ → Database → Database
with_open a db = record db { usage = λ b. if b == a then db.usage b ++ (1, Update) ∷ [] else db.usage b }

abbrev open_shop : Database
open_shop = with_open side (with_open main (opening shop))

abbrev unit_open : Unit
unit_open = unit 1 None (None ∷ None ∷ None ∷ []) (None ∷ None ∷ None ∷ []) (None ∷ None ∷ []) (Some Update ∷ Some Update ∷ []) []

abbrev the_customer : List Value
the_customer = Num 7 ∷ text "ADA     " ∷ []

abbrev with_customer : Database
with_customer = with_new shop open_shop (customer_key 1) the_customer

abbrev unit_customer : Unit
unit_customer =
    unit 1 (Some (customer_key 1)) (Some (customer_key 1) ∷ None ∷ None ∷ []) (owner_itself (customer_key 1) ∷ None ∷ None ∷ [])
    (Some (customer_key 1) ∷ None ∷ []) (Some Update ∷ Some Update ∷ []) []

abbrev with_order : Database
with_order = connected_in shop (with_new shop with_customer (ordr_key 1) (Num 1 ∷ [])) unit_customer (has ∷ []) (ordr_key 1)

-- THE CUSTOMER

module _ (c : ℕ) where
  nobody : live_keys (suc c) open_shop customers ≡ []
  nobody = none_in_range (is_live open_shop) (key_at open_shop customers) 1 (suc c) (λ j above below. refl)

  one_customer : live_keys (suc c) with_customer customers ≡ customer_key 1 ∷ []
  one_customer =
      ap (λ ks. customer_key 1 ∷ ks) (none_in_range (is_live with_customer) (key_at with_customer customers) 2 c (λ j above below.
      ap (λ b. is_some (cond (b && 1 == with_customer.last customers j) (there the_customer) None)) (ne_eqb 1 j (λ e. omega (arith, e, above)))))

  no_order : live_keys (suc c) with_customer orders ≡ []
  no_order = none_in_range (is_live with_customer) (key_at with_customer orders) 1 (suc c) (λ j above below. refl)

  not_taken : first_cause (store_checks shop (whole shop (suc c) open_shop) unit_open customers the_customer) ≡ None
  not_taken =
      ap (λ live. cond (list_any (λ k. true) (filter (λ k. values_eq (calc_items shop customers (items_of open_shop k)) (calc_items shop customers the_customer)) live)) (Some DuplicatesNotAllowed) None) nobody

  no_owners : owners_of shop (suc c) with_customer (customer_key 1) ≡ None ∷ None ∷ None ∷ []
  no_owners = λ i. in_has i ∷ in_lines i ∷ None ∷ [] where
    in_has : owner_of shop (suc c) with_customer has (customer_key 1) ≡ None
    in_has = ap (λ ks. find (λ o. is_member (customer_key 1) (members_of with_customer has o)) (map Rec ks)) one_customer

    in_lines : owner_of shop (suc c) with_customer lines (customer_key 1) ≡ None
    in_lines = ap (λ ks. find (λ o. is_member (customer_key 1) (members_of with_customer lines o)) (map Rec ks)) no_order

  store_customer : effect shop (suc c) open_shop unit_open (store customers the_customer) ≡ done with_customer unit_customer (Some (customer_key 1)) None
  store_customer =
      store_passes shop (suc c) open_shop unit_open customers the_customer nothing 1 refl refl not_taken
      ∙ ap (λ owners. done with_customer (seen_with shop unit_open (customer_key 1) owners nothing) (Some (customer_key 1)) None) no_owners

-- THE ORDER

records_are : (x : DbKey) → with_order.records x ≡ the_records 0 x
records_are x = ap (λ b. cond b (there (the_items x.number)) (the_first_records x)) (sym (and_right (2 == x.rtype && 1 == x.generation) _ (none_yet x.number)))

last_are : (t n : ℕ) → with_order.last t n ≡ the_last 0 t n
last_are t n = ap (λ b. cond b 1 (the_first_last t n)) (sym (and_right (t == items) _ (none_yet n)))

lists_are : (s : ℕ) (o : Owner) → with_order.lists s o ≡ the_lists 0 s o
unfolding by_quantity
lists_are zero o =
    elim (owner_eq (Rec (customer_key 1)) o)
    as (λ b. cond b (option_map (λ list. list ++ ordr_key 1 ∷ []) (cond b (Some []) None)) (cond b (Some []) None) ≡ cond b (Some (ordr_key 1 ∷ [])) None) [
      | true ↦ refl
      | false ↦ refl
    ]
lists_are (suc zero) o = refl
lists_are (suc (suc zero)) o = refl
lists_are (suc (suc (suc s))) o = either_way _ None

usage_is : (a : ℕ) → with_order.usage a ≡ the_usage a
usage_is a =
    elim (cases_Bool (a == side)) [
      | inl e ↦ subst (λ (b : ℕ). with_order.usage b ≡ the_usage b) (sym (eqb-true a side e)) refl
      | inr e ↦
          ap (λ b. cond b (cond (a == main) ((1, Update) ∷ []) [] ++ (1, Update) ∷ []) (cond (a == main) ((1, Update) ∷ []) [])) e
          ∙ sym (ap (λ b. cond b ((1, Update) ∷ []) (cond (a == main) ((1, Update) ∷ []) [])) e)
    ]

order_is_there : with_order ≡ shop_with 0
unfolding shop_with
order_is_there = λ i. record { records = λ x. records_are x i; lists = λ s o. lists_are s o i; last = λ t n. last_are t n i; usage = λ a. usage_is a i }

module _ (c : ℕ) where
  one_owner : owners_of shop (suc c) (shop_with 0) (ordr_key 1) ≡ Some (Rec (customer_key 1)) ∷ None ∷ None ∷ []
  unfolding shop_with by_quantity
  one_owner = λ i. in_has i ∷ in_lines i ∷ None ∷ [] where
    in_has : owner_of shop (suc c) (shop_with 0) has (ordr_key 1) ≡ Some (Rec (customer_key 1))
    in_has = ap (λ ks. find (λ o. is_member (ordr_key 1) (members_of (shop_with 0) has o)) (map Rec ks)) (live_customers c 0)

    in_lines : owner_of shop (suc c) (shop_with 0) lines (ordr_key 1) ≡ None
    in_lines = ap (λ ks. find (λ o. is_member (ordr_key 1) (members_of (shop_with 0) lines o)) (map Rec ks)) (live_orders c 0)

  store_order : effect shop (suc c) with_customer unit_customer (store orders (Num 1 ∷ [])) ≡ done (shop_with 0) (unit_after 0) (Some (ordr_key 1)) None
  store_order =
      store_passes shop (suc c) with_customer unit_customer orders (Num 1 ∷ []) nothing 1 refl refl refl
      ∙ ap (λ db. done db (seen shop (suc c) db unit_customer (ordr_key 1) nothing) (Some (ordr_key 1)) None) order_is_there
      ∙ ap (λ owners. done (shop_with 0) (seen_with shop unit_customer (ordr_key 1) owners nothing) (Some (ordr_key 1)) None) one_owner

-- THE OPENING

-- both areas opened, a customer, an order
abbrev pub first_statements : List (ℕ × Statement)
first_statements = by 1 (OpenArea main Update ∷ OpenArea side Update ∷ store customers the_customer ∷ store orders (Num 1 ∷ []) ∷ [])

abbrev pub first_answers : List (Option Answer)
first_answers = accepted ∷ accepted ∷ found (customer_key 1) ∷ found (ordr_key 1) ∷ []

abbrev unit_in_main : Unit
unit_in_main = unit 1 None (None ∷ None ∷ None ∷ []) (None ∷ None ∷ None ∷ []) (None ∷ None ∷ []) (Some Update ∷ None ∷ []) []

abbrev alone : Database → Unit → State
alone db unit = record { database = db; units = unit ∷ [] }

module _ (c : ℕ) where
  open_main : effect shop (suc c) (opening shop) (opening_unit shop 1) (OpenArea main Update) ≡ done (with_open main (opening shop)) unit_in_main None None
  unfolding effect
  open_main = refl

  open_side : effect shop (suc c) (with_open main (opening shop)) unit_in_main (OpenArea side Update) ≡ done open_shop unit_open None None
  unfolding effect
  open_side = refl

  -- one statement of a unit that is alone, and what comes after it
  then_state : (db : Database) (unit : Unit) (statement : Statement) (rest : List (ℕ × Statement)) (outcome : StatementEffect) → effect shop (suc c) db unit statement ≡ outcome
      → state_after shop (suc c) (alone db unit) ((1, statement) ∷ rest) ≡ state_after shop (suc c) (alone outcome.database outcome.unit) rest
  then_state db unit statement rest outcome is = ap (λ o. state_after shop (suc c) (after_effect (alone db unit) 1 (Some o)) rest) is

  then_answers : (db : Database) (unit : Unit) (statement : Statement) (rest : List (ℕ × Statement)) (outcome : StatementEffect) → effect shop (suc c) db unit statement ≡ outcome
      → answers shop (suc c) (alone db unit) ((1, statement) ∷ rest) ≡ Some outcome.answer ∷ answers shop (suc c) (alone outcome.database outcome.unit) rest
  then_answers db unit statement rest outcome is = ap (λ o. Some o.answer ∷ answers shop (suc c) (after_effect (alone db unit) 1 (Some o)) rest) is

  module _ (rest : List (ℕ × Statement)) where
    abbrev fourth : List (ℕ × Statement)
    fourth = by 1 (store orders (Num 1 ∷ []) ∷ []) ++ rest

    abbrev third : List (ℕ × Statement)
    third = by 1 (store customers the_customer ∷ []) ++ fourth

    abbrev second : List (ℕ × Statement)
    second = by 1 (OpenArea side Update ∷ []) ++ third

    state_after_first : state_after shop (suc c) (opening_state shop 1) (first_statements ++ rest) ≡ state_after shop (suc c) (state_with 0) rest
    state_after_first =
        then_state (opening shop) (opening_unit shop 1) (OpenArea main Update) second _ open_main
        ∙ then_state (with_open main (opening shop)) unit_in_main (OpenArea side Update) third _ open_side
        ∙ then_state open_shop unit_open (store customers the_customer) fourth _ (store_customer c)
        ∙ then_state with_customer unit_customer (store orders (Num 1 ∷ [])) rest _ (store_order c)

    answers_to_first : answers shop (suc c) (opening_state shop 1) (first_statements ++ rest) ≡ first_answers ++ answers shop (suc c) (state_with 0) rest
    answers_to_first =
        then_answers (opening shop) (opening_unit shop 1) (OpenArea main Update) second _ open_main
        ∙ ap (λ others. accepted ∷ others) (then_answers (with_open main (opening shop)) unit_in_main (OpenArea side Update) third _ open_side)
        ∙ ap (λ others. accepted ∷ accepted ∷ others) (then_answers open_shop unit_open (store customers the_customer) fourth _ (store_customer c))
        ∙ ap (λ others. accepted ∷ accepted ∷ found (customer_key 1) ∷ others) (then_answers with_customer unit_customer (store orders (Num 1 ∷ [])) rest _ (store_order c))

-- THE ITEMS

-- after the opening and items 1 to k, as far as there is room, the state is as told above, whatever comes then
pub state_in_turn : (capacity k : ℕ) → 1 ≤ capacity → k ≤ capacity → (rest : List (ℕ × Statement))
    → state_after shop capacity (opening_state shop 1) (first_statements ++ (store_items 1 k ++ rest)) ≡ state_after shop capacity (state_with k) rest
state_in_turn zero k any room rest = absurd (omega (arith, any))
state_in_turn (suc c) k any room rest =
    let whole : 0 + k ≡ k = omega arith in
    state_after_first c (store_items 1 k ++ rest)
    ∙ state_after_items c rest 0 k (omega (arith, room))
    ∙ ap (λ j. state_after shop (suc c) (state_with j) rest) whole

-- and each item has the next number
pub answers_in_turn : (capacity k : ℕ) → 1 ≤ capacity → k ≤ capacity → (rest : List (ℕ × Statement))
    → answers shop capacity (opening_state shop 1) (first_statements ++ (store_items 1 k ++ rest)) ≡ first_answers ++ (map found (first_items k) ++ answers shop capacity (state_with k) rest)
answers_in_turn zero k any room rest = absurd (omega (arith, any))
answers_in_turn (suc c) k any room rest =
    let whole : 0 + k ≡ k = omega arith in
    answers_to_first c (store_items 1 k ++ rest)
    ∙ ap (λ others. first_answers ++ others) (answers_to_items c rest 0 k (omega (arith, room))
    ∙ ap (λ j. map found (first_items k) ++ answers shop (suc c) (state_with j) rest) whole)
