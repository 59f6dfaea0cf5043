-- Statements of two units in turn.
use Rattle.std.specs.Prelude.{◌≡◌, refl, [], ◌∷◌, ◌++◌, Some, None, false}
use Rattle.dbtg_cells.specs.declared.key.Owner.TheVariants.{System, Rec}
use Rattle.dbtg_cells.specs.declared.key.Value.TheVariants.{Num}
use Rattle.dbtg_cells.specs.declared.usage.Mode.TheVariants.{Update}
use Rattle.dbtg_unit.specs.declared.statement.Form.TheVariants.{Key}
use Rattle.dbtg_unit.specs.declared.statement.Statement.TheVariants.{OpenArea, Find, Insert, Remove}
use Rattle.dbtg_unit.specs.Database.Statements.Effect.{effect}
use Rattle.dbtg_unit.specs.Database.State.Image.{image_of}
use Rattle.dbtg_unit.proofs.Rows.Defined.Schemas.{shop, main, side, customers, orders, items, lines}
use Rattle.dbtg_unit.proofs.Rows.Words.{find, store, by, customer_key, ordr_key, item_key, owner_itself, member, done, found, run, unit, text}

-- one unit alone
pub one_order : run shop 100 1 (by 1 (
    OpenArea main Update ∷ store customers (Num 1 ∷ text "        " ∷ []) ∷ store orders (Num 11 ∷ []) ∷ []))
    ≡ record {
      answers =
          done ∷ found (customer_key 1) ∷ found (ordr_key 1) ∷ [];
      records =
          (customer_key 1, Num 1 ∷ text "        " ∷ []) ∷ (ordr_key 1, Num 11 ∷ []) ∷ [];
      lists =
          ((Rec (customer_key 1), ordr_key 1 ∷ []) ∷ [])
          ∷ ((Rec (ordr_key 1), []) ∷ [])
          ∷ ((System, []) ∷ [])
          ∷ [];
      next = 2 ∷ 2 ∷ 1 ∷ [];
      usage = ((1, Update) ∷ []) ∷ ([]) ∷ [];
      units =
          unit 1 (Some (ordr_key 1)) (Some (customer_key 1) ∷ Some (ordr_key 1) ∷ None ∷ [])
          (member (customer_key 1) (ordr_key 1) ∷ owner_itself (ordr_key 1) ∷ None ∷ [])
          (Some (ordr_key 1) ∷ None ∷ []) (Some Update ∷ None ∷ []) ([])
          ∷ [];
    }
unfolding effect image_of
one_order = refl

-- each unit has currents of its own
pub two_customers_two_orders : run shop 100 2 (by 1 (
    OpenArea main Update ∷ store customers (Num 1 ∷ text "        " ∷ []) ∷ [])
    ++ by 2 (
    OpenArea main Update ∷ store customers (Num 2 ∷ text "        " ∷ []) ∷ [])
    ++ by 1 (
    store orders (Num 11 ∷ []) ∷ [])
    ++ by 2 (
    store orders (Num 22 ∷ []) ∷ []))
    ≡ record {
      answers =
          done ∷ found (customer_key 1) ∷ done ∷ found (customer_key 2) ∷ found (ordr_key 1) ∷ found (ordr_key 2) ∷ [];
      records =
          (customer_key 1, Num 1 ∷ text "        " ∷ []) ∷ (customer_key 2, Num 2 ∷ text "        " ∷ [])
          ∷ (ordr_key 1, Num 11 ∷ []) ∷ (ordr_key 2, Num 22 ∷ []) ∷ [];
      lists =
          ((Rec (customer_key 1), ordr_key 1 ∷ []) ∷ (Rec (customer_key 2), ordr_key 2 ∷ []) ∷ [])
          ∷ ((Rec (ordr_key 1), []) ∷ (Rec (ordr_key 2), []) ∷ [])
          ∷ ((System, []) ∷ [])
          ∷ [];
      next = 3 ∷ 3 ∷ 1 ∷ [];
      usage = ((1, Update) ∷ (2, Update) ∷ []) ∷ ([]) ∷ [];
      units =
          unit 1 (Some (ordr_key 1)) (Some (customer_key 1) ∷ Some (ordr_key 1) ∷ None ∷ [])
          (member (customer_key 1) (ordr_key 1) ∷ owner_itself (ordr_key 1) ∷ None ∷ [])
          (Some (ordr_key 1) ∷ None ∷ []) (Some Update ∷ None ∷ []) ([])
          ∷ unit 2 (Some (ordr_key 2)) (Some (customer_key 2) ∷ Some (ordr_key 2) ∷ None ∷ [])
          (member (customer_key 2) (ordr_key 2) ∷ owner_itself (ordr_key 2) ∷ None ∷ [])
          (Some (ordr_key 2) ∷ None ∷ []) (Some Update ∷ None ∷ []) ([])
          ∷ [];
    }
unfolding effect image_of
two_customers_two_orders = refl

-- one unit has not come to its third statement
pub the_other_order_alone : run shop 100 2 (by 1 (
    OpenArea main Update ∷ store customers (Num 1 ∷ text "        " ∷ []) ∷ [])
    ++ by 2 (
    OpenArea main Update ∷ store customers (Num 2 ∷ text "        " ∷ []) ∷ store orders (Num 22 ∷ []) ∷ []))
    ≡ record {
      answers =
          done ∷ found (customer_key 1) ∷ done ∷ found (customer_key 2) ∷ found (ordr_key 1) ∷ [];
      records =
          (customer_key 1, Num 1 ∷ text "        " ∷ []) ∷ (customer_key 2, Num 2 ∷ text "        " ∷ [])
          ∷ (ordr_key 1, Num 22 ∷ []) ∷ [];
      lists =
          ((Rec (customer_key 1), []) ∷ (Rec (customer_key 2), ordr_key 1 ∷ []) ∷ [])
          ∷ ((Rec (ordr_key 1), []) ∷ [])
          ∷ ((System, []) ∷ [])
          ∷ [];
      next = 3 ∷ 2 ∷ 1 ∷ [];
      usage = ((1, Update) ∷ (2, Update) ∷ []) ∷ ([]) ∷ [];
      units =
          unit 1 (Some (customer_key 1)) (Some (customer_key 1) ∷ None ∷ None ∷ [])
          (owner_itself (customer_key 1) ∷ None ∷ None ∷ [])
          (Some (customer_key 1) ∷ None ∷ []) (Some Update ∷ None ∷ []) ([])
          ∷ unit 2 (Some (ordr_key 1)) (Some (customer_key 2) ∷ Some (ordr_key 1) ∷ None ∷ [])
          (member (customer_key 2) (ordr_key 1) ∷ owner_itself (ordr_key 1) ∷ None ∷ [])
          (Some (ordr_key 1) ∷ None ∷ []) (Some Update ∷ None ∷ []) ([])
          ∷ [];
    }
unfolding effect image_of
the_other_order_alone = refl

-- one unit moves a record from one list to another, without its set seen
pub inserted_by_the_other : run shop 100 2 (by 1 (
    OpenArea main Update ∷ OpenArea side Update ∷ store customers (Num 7 ∷ text "        " ∷ [])
    ∷ store orders (Num 1 ∷ []) ∷ store items (text "    " ∷ Num 5 ∷ []) ∷ store orders (Num 2 ∷ [])
    ∷ find (Key (item_key 1)) ∷ [])
    ++ by 2 (
    OpenArea main Update ∷ OpenArea side Update ∷ find (Key (ordr_key 2))
    ∷ Find (record { types = false; areas = false; sets = 2 }) (Key (item_key 1)) ∷ Remove lines ∷ Insert lines
    ∷ []))
    ≡ record {
      answers =
          done ∷ done ∷ found (customer_key 1) ∷ found (ordr_key 1) ∷ found (item_key 1) ∷ found (ordr_key 2)
          ∷ found (item_key 1) ∷ done ∷ done ∷ found (ordr_key 2) ∷ found (item_key 1) ∷ done ∷ done ∷ [];
      records =
          (customer_key 1, Num 7 ∷ text "        " ∷ []) ∷ (ordr_key 1, Num 1 ∷ []) ∷ (ordr_key 2, Num 2 ∷ [])
          ∷ (item_key 1, text "    " ∷ Num 5 ∷ []) ∷ [];
      lists =
          ((Rec (customer_key 1), ordr_key 1 ∷ ordr_key 2 ∷ []) ∷ [])
          ∷ ((Rec (ordr_key 1), []) ∷ (Rec (ordr_key 2), item_key 1 ∷ []) ∷ [])
          ∷ ((System, []) ∷ [])
          ∷ [];
      next = 2 ∷ 3 ∷ 2 ∷ [];
      usage = ((1, Update) ∷ (2, Update) ∷ []) ∷ ((1, Update) ∷ (2, Update) ∷ []) ∷ [];
      units =
          unit 1 (Some (item_key 1)) (Some (customer_key 1) ∷ Some (ordr_key 2) ∷ Some (item_key 1) ∷ [])
          (member (customer_key 1) (ordr_key 2) ∷ member (ordr_key 1) (item_key 1) ∷ None ∷ [])
          (Some (ordr_key 2) ∷ Some (item_key 1) ∷ []) (Some Update ∷ Some Update ∷ []) ([])
          ∷ unit 2 (Some (item_key 1)) (None ∷ Some (ordr_key 2) ∷ Some (item_key 1) ∷ [])
          (member (customer_key 1) (ordr_key 2) ∷ member (ordr_key 2) (item_key 1) ∷ None ∷ [])
          (Some (ordr_key 2) ∷ Some (item_key 1) ∷ []) (Some Update ∷ Some Update ∷ []) ([])
          ∷ [];
    }
unfolding effect image_of
inserted_by_the_other = refl

-- REMOVE takes the record out of the list that has it now
pub removed_from_another_list : run shop 100 2 (by 1 (
    OpenArea main Update ∷ OpenArea side Update ∷ store customers (Num 7 ∷ text "        " ∷ [])
    ∷ store orders (Num 1 ∷ []) ∷ store items (text "    " ∷ Num 5 ∷ []) ∷ store orders (Num 2 ∷ [])
    ∷ find (Key (item_key 1)) ∷ [])
    ++ by 2 (
    OpenArea main Update ∷ OpenArea side Update ∷ find (Key (ordr_key 2))
    ∷ Find (record { types = false; areas = false; sets = 2 }) (Key (item_key 1)) ∷ Remove lines ∷ Insert lines
    ∷ [])
    ++ by 1 (
    Remove lines ∷ []))
    ≡ record {
      answers =
          done ∷ done ∷ found (customer_key 1) ∷ found (ordr_key 1) ∷ found (item_key 1) ∷ found (ordr_key 2)
          ∷ found (item_key 1) ∷ done ∷ done ∷ found (ordr_key 2) ∷ found (item_key 1) ∷ done ∷ done ∷ done ∷ [];
      records =
          (customer_key 1, Num 7 ∷ text "        " ∷ []) ∷ (ordr_key 1, Num 1 ∷ []) ∷ (ordr_key 2, Num 2 ∷ [])
          ∷ (item_key 1, text "    " ∷ Num 5 ∷ []) ∷ [];
      lists =
          ((Rec (customer_key 1), ordr_key 1 ∷ ordr_key 2 ∷ []) ∷ [])
          ∷ ((Rec (ordr_key 1), []) ∷ (Rec (ordr_key 2), []) ∷ [])
          ∷ ((System, []) ∷ [])
          ∷ [];
      next = 2 ∷ 3 ∷ 2 ∷ [];
      usage = ((1, Update) ∷ (2, Update) ∷ []) ∷ ((1, Update) ∷ (2, Update) ∷ []) ∷ [];
      units =
          unit 1 (Some (item_key 1)) (Some (customer_key 1) ∷ Some (ordr_key 2) ∷ Some (item_key 1) ∷ [])
          (member (customer_key 1) (ordr_key 2) ∷ member (ordr_key 1) (item_key 1) ∷ None ∷ [])
          (Some (ordr_key 2) ∷ Some (item_key 1) ∷ []) (Some Update ∷ Some Update ∷ []) ([])
          ∷ unit 2 (Some (item_key 1)) (None ∷ Some (ordr_key 2) ∷ Some (item_key 1) ∷ [])
          (member (customer_key 1) (ordr_key 2) ∷ member (ordr_key 2) (item_key 1) ∷ None ∷ [])
          (Some (ordr_key 2) ∷ Some (item_key 1) ∷ []) (Some Update ∷ Some Update ∷ []) ([])
          ∷ [];
    }
unfolding effect image_of
removed_from_another_list = refl

-- each unit takes a record out, one unit after the other
pub both_remove : run shop 100 2 (by 1 (
    OpenArea main Update ∷ OpenArea side Update ∷ store customers (Num 1 ∷ text "        " ∷ [])
    ∷ store orders (Num 1 ∷ []) ∷ store items (text "    " ∷ Num 1 ∷ [])
    ∷ store customers (Num 2 ∷ text "        " ∷ []) ∷ store orders (Num 2 ∷ [])
    ∷ store items (text "    " ∷ Num 2 ∷ []) ∷ find (Key (item_key 1)) ∷ Remove lines ∷ [])
    ++ by 2 (
    OpenArea main Update ∷ OpenArea side Update ∷ find (Key (item_key 2)) ∷ Remove lines ∷ []))
    ≡ record {
      answers =
          done ∷ done ∷ found (customer_key 1) ∷ found (ordr_key 1) ∷ found (item_key 1) ∷ found (customer_key 2)
          ∷ found (ordr_key 2) ∷ found (item_key 2) ∷ found (item_key 1) ∷ done ∷ done ∷ done ∷ found (item_key 2)
          ∷ done ∷ [];
      records =
          (customer_key 1, Num 1 ∷ text "        " ∷ []) ∷ (customer_key 2, Num 2 ∷ text "        " ∷ [])
          ∷ (ordr_key 1, Num 1 ∷ []) ∷ (ordr_key 2, Num 2 ∷ []) ∷ (item_key 1, text "    " ∷ Num 1 ∷ [])
          ∷ (item_key 2, text "    " ∷ Num 2 ∷ []) ∷ [];
      lists =
          ((Rec (customer_key 1), ordr_key 1 ∷ []) ∷ (Rec (customer_key 2), ordr_key 2 ∷ []) ∷ [])
          ∷ ((Rec (ordr_key 1), []) ∷ (Rec (ordr_key 2), []) ∷ [])
          ∷ ((System, []) ∷ [])
          ∷ [];
      next = 3 ∷ 3 ∷ 3 ∷ [];
      usage = ((1, Update) ∷ (2, Update) ∷ []) ∷ ((1, Update) ∷ (2, Update) ∷ []) ∷ [];
      units =
          unit 1 (Some (item_key 1)) (Some (customer_key 2) ∷ Some (ordr_key 2) ∷ Some (item_key 1) ∷ [])
          (member (customer_key 2) (ordr_key 2) ∷ member (ordr_key 1) (item_key 1) ∷ None ∷ [])
          (Some (ordr_key 2) ∷ Some (item_key 1) ∷ []) (Some Update ∷ Some Update ∷ []) ([])
          ∷ unit 2 (Some (item_key 2)) (None ∷ None ∷ Some (item_key 2) ∷ [])
          (None ∷ member (ordr_key 2) (item_key 2) ∷ None ∷ [])
          (None ∷ Some (item_key 2) ∷ []) (Some Update ∷ Some Update ∷ []) ([])
          ∷ [];
    }
unfolding effect image_of
both_remove = refl

-- the same, where the other unit opened first
pub both_remove_opened_in_turn : run shop 100 2 (by 2 (
    OpenArea main Update ∷ OpenArea side Update ∷ [])
    ++ by 1 (
    OpenArea main Update ∷ OpenArea side Update ∷ store customers (Num 1 ∷ text "        " ∷ [])
    ∷ store orders (Num 1 ∷ []) ∷ store items (text "    " ∷ Num 1 ∷ [])
    ∷ store customers (Num 2 ∷ text "        " ∷ []) ∷ store orders (Num 2 ∷ [])
    ∷ store items (text "    " ∷ Num 2 ∷ []) ∷ find (Key (item_key 1)) ∷ Remove lines ∷ [])
    ++ by 2 (
    find (Key (item_key 2)) ∷ Remove lines ∷ []))
    ≡ record {
      answers =
          done ∷ done ∷ done ∷ done ∷ found (customer_key 1) ∷ found (ordr_key 1) ∷ found (item_key 1)
          ∷ found (customer_key 2) ∷ found (ordr_key 2) ∷ found (item_key 2) ∷ found (item_key 1) ∷ done
          ∷ found (item_key 2) ∷ done ∷ [];
      records =
          (customer_key 1, Num 1 ∷ text "        " ∷ []) ∷ (customer_key 2, Num 2 ∷ text "        " ∷ [])
          ∷ (ordr_key 1, Num 1 ∷ []) ∷ (ordr_key 2, Num 2 ∷ []) ∷ (item_key 1, text "    " ∷ Num 1 ∷ [])
          ∷ (item_key 2, text "    " ∷ Num 2 ∷ []) ∷ [];
      lists =
          ((Rec (customer_key 1), ordr_key 1 ∷ []) ∷ (Rec (customer_key 2), ordr_key 2 ∷ []) ∷ [])
          ∷ ((Rec (ordr_key 1), []) ∷ (Rec (ordr_key 2), []) ∷ [])
          ∷ ((System, []) ∷ [])
          ∷ [];
      next = 3 ∷ 3 ∷ 3 ∷ [];
      usage = ((2, Update) ∷ (1, Update) ∷ []) ∷ ((2, Update) ∷ (1, Update) ∷ []) ∷ [];
      units =
          unit 1 (Some (item_key 1)) (Some (customer_key 2) ∷ Some (ordr_key 2) ∷ Some (item_key 1) ∷ [])
          (member (customer_key 2) (ordr_key 2) ∷ member (ordr_key 1) (item_key 1) ∷ None ∷ [])
          (Some (ordr_key 2) ∷ Some (item_key 1) ∷ []) (Some Update ∷ Some Update ∷ []) ([])
          ∷ unit 2 (Some (item_key 2)) (None ∷ None ∷ Some (item_key 2) ∷ [])
          (None ∷ member (ordr_key 2) (item_key 2) ∷ None ∷ [])
          (None ∷ Some (item_key 2) ∷ []) (Some Update ∷ Some Update ∷ []) ([])
          ∷ [];
    }
unfolding effect image_of
both_remove_opened_in_turn = refl

-- the same in another order
pub both_remove_interleaved : run shop 100 2 (by 1 (
    OpenArea main Update ∷ OpenArea side Update ∷ store customers (Num 1 ∷ text "        " ∷ [])
    ∷ store orders (Num 1 ∷ []) ∷ store items (text "    " ∷ Num 1 ∷ [])
    ∷ store customers (Num 2 ∷ text "        " ∷ []) ∷ store orders (Num 2 ∷ [])
    ∷ store items (text "    " ∷ Num 2 ∷ []) ∷ find (Key (item_key 1)) ∷ [])
    ++ by 2 (
    OpenArea main Update ∷ OpenArea side Update ∷ find (Key (item_key 2)) ∷ [])
    ++ by 1 (
    Remove lines ∷ [])
    ++ by 2 (
    Remove lines ∷ []))
    ≡ record {
      answers =
          done ∷ done ∷ found (customer_key 1) ∷ found (ordr_key 1) ∷ found (item_key 1) ∷ found (customer_key 2)
          ∷ found (ordr_key 2) ∷ found (item_key 2) ∷ found (item_key 1) ∷ done ∷ done ∷ found (item_key 2) ∷ done
          ∷ done ∷ [];
      records =
          (customer_key 1, Num 1 ∷ text "        " ∷ []) ∷ (customer_key 2, Num 2 ∷ text "        " ∷ [])
          ∷ (ordr_key 1, Num 1 ∷ []) ∷ (ordr_key 2, Num 2 ∷ []) ∷ (item_key 1, text "    " ∷ Num 1 ∷ [])
          ∷ (item_key 2, text "    " ∷ Num 2 ∷ []) ∷ [];
      lists =
          ((Rec (customer_key 1), ordr_key 1 ∷ []) ∷ (Rec (customer_key 2), ordr_key 2 ∷ []) ∷ [])
          ∷ ((Rec (ordr_key 1), []) ∷ (Rec (ordr_key 2), []) ∷ [])
          ∷ ((System, []) ∷ [])
          ∷ [];
      next = 3 ∷ 3 ∷ 3 ∷ [];
      usage = ((1, Update) ∷ (2, Update) ∷ []) ∷ ((1, Update) ∷ (2, Update) ∷ []) ∷ [];
      units =
          unit 1 (Some (item_key 1)) (Some (customer_key 2) ∷ Some (ordr_key 2) ∷ Some (item_key 1) ∷ [])
          (member (customer_key 2) (ordr_key 2) ∷ member (ordr_key 1) (item_key 1) ∷ None ∷ [])
          (Some (ordr_key 2) ∷ Some (item_key 1) ∷ []) (Some Update ∷ Some Update ∷ []) ([])
          ∷ unit 2 (Some (item_key 2)) (None ∷ None ∷ Some (item_key 2) ∷ [])
          (None ∷ member (ordr_key 2) (item_key 2) ∷ None ∷ [])
          (None ∷ Some (item_key 2) ∷ []) (Some Update ∷ Some Update ∷ []) ([])
          ∷ [];
    }
unfolding effect image_of
both_remove_interleaved = refl

-- one unit has not come to its fourth statement
pub one_removes : run shop 100 2 (by 1 (
    OpenArea main Update ∷ OpenArea side Update ∷ store customers (Num 1 ∷ text "        " ∷ [])
    ∷ store orders (Num 1 ∷ []) ∷ store items (text "    " ∷ Num 1 ∷ [])
    ∷ store customers (Num 2 ∷ text "        " ∷ []) ∷ store orders (Num 2 ∷ [])
    ∷ store items (text "    " ∷ Num 2 ∷ []) ∷ find (Key (item_key 1)) ∷ [])
    ++ by 2 (
    OpenArea main Update ∷ OpenArea side Update ∷ find (Key (item_key 2)) ∷ [])
    ++ by 1 (
    Remove lines ∷ []))
    ≡ record {
      answers =
          done ∷ done ∷ found (customer_key 1) ∷ found (ordr_key 1) ∷ found (item_key 1) ∷ found (customer_key 2)
          ∷ found (ordr_key 2) ∷ found (item_key 2) ∷ found (item_key 1) ∷ done ∷ done ∷ found (item_key 2) ∷ done ∷ [];
      records =
          (customer_key 1, Num 1 ∷ text "        " ∷ []) ∷ (customer_key 2, Num 2 ∷ text "        " ∷ [])
          ∷ (ordr_key 1, Num 1 ∷ []) ∷ (ordr_key 2, Num 2 ∷ []) ∷ (item_key 1, text "    " ∷ Num 1 ∷ [])
          ∷ (item_key 2, text "    " ∷ Num 2 ∷ []) ∷ [];
      lists =
          ((Rec (customer_key 1), ordr_key 1 ∷ []) ∷ (Rec (customer_key 2), ordr_key 2 ∷ []) ∷ [])
          ∷ ((Rec (ordr_key 1), []) ∷ (Rec (ordr_key 2), item_key 2 ∷ []) ∷ [])
          ∷ ((System, []) ∷ [])
          ∷ [];
      next = 3 ∷ 3 ∷ 3 ∷ [];
      usage = ((1, Update) ∷ (2, Update) ∷ []) ∷ ((1, Update) ∷ (2, Update) ∷ []) ∷ [];
      units =
          unit 1 (Some (item_key 1)) (Some (customer_key 2) ∷ Some (ordr_key 2) ∷ Some (item_key 1) ∷ [])
          (member (customer_key 2) (ordr_key 2) ∷ member (ordr_key 1) (item_key 1) ∷ None ∷ [])
          (Some (ordr_key 2) ∷ Some (item_key 1) ∷ []) (Some Update ∷ Some Update ∷ []) ([])
          ∷ unit 2 (Some (item_key 2)) (None ∷ None ∷ Some (item_key 2) ∷ [])
          (None ∷ member (ordr_key 2) (item_key 2) ∷ None ∷ [])
          (None ∷ Some (item_key 2) ∷ []) (Some Update ∷ Some Update ∷ []) ([])
          ∷ [];
    }
unfolding effect image_of
one_removes = refl
