-- Through the members of a set, from the front, from the end, from the position, by number, by value.
use Rattle.std.specs.Prelude.{◌≡◌, refl, [], ◌∷◌, Some, None, pos, negsuc}
use Rattle.dbtg_cells.specs.declared.key.Owner.TheVariants.{System, Rec}
use Rattle.dbtg_cells.specs.declared.key.Value.TheVariants.{Num}
use Rattle.dbtg_cells.specs.declared.usage.Mode.TheVariants.{Update}
use Rattle.dbtg_unit.specs.declared.statement.Form.TheVariants.{Calc, NextDuplicate, Sorted}
use Rattle.dbtg_unit.specs.declared.statement.Statement.TheVariants.{OpenArea}
use Rattle.dbtg_unit.specs.declared.statement.Which.TheVariants.{First, Last, Next, Prior, Nth}
use Rattle.dbtg_unit.specs.declared.unit.Cause.TheVariants.{End, NoneSatisfies}
use Rattle.dbtg_unit.specs.Database.Statements.Effect.{effect}
use Rattle.dbtg_unit.specs.Database.State.Image.{image_of}
use Rattle.dbtg_unit.proofs.Rows.Defined.Schemas.{shop, main, side, customers, orders, items, lines}
use Rattle.dbtg_unit.proofs.Rows.Words.{find, find_in_set, store, by, customer_key, ordr_key, item_key, member, done, found, no, run, unit, text}

-- members with equal sort keys stand in the order of storing
pub members_with_equal_keys : run shop 100 1 (by 1 (
    OpenArea main Update ∷ OpenArea side Update ∷ store customers (Num 7 ∷ text "ADA     " ∷ [])
    ∷ store orders (Num 1 ∷ []) ∷ store items (text "A   " ∷ Num 5 ∷ []) ∷ store items (text "B   " ∷ Num 5 ∷ [])
    ∷ store items (text "C   " ∷ Num 5 ∷ []) ∷ []))
    ≡ record {
      answers =
          done ∷ done ∷ found (customer_key 1) ∷ found (ordr_key 1) ∷ found (item_key 1) ∷ found (item_key 2)
          ∷ found (item_key 3) ∷ [];
      records =
          (customer_key 1, Num 7 ∷ text "ADA     " ∷ []) ∷ (ordr_key 1, Num 1 ∷ [])
          ∷ (item_key 1, text "A   " ∷ Num 5 ∷ []) ∷ (item_key 2, text "B   " ∷ Num 5 ∷ [])
          ∷ (item_key 3, text "C   " ∷ Num 5 ∷ []) ∷ [];
      lists =
          ((Rec (customer_key 1), ordr_key 1 ∷ []) ∷ [])
          ∷ ((Rec (ordr_key 1), item_key 1 ∷ item_key 2 ∷ item_key 3 ∷ []) ∷ [])
          ∷ ((System, []) ∷ [])
          ∷ [];
      next = 2 ∷ 2 ∷ 4 ∷ [];
      usage = ((1, Update) ∷ []) ∷ ((1, Update) ∷ []) ∷ [];
      units =
          unit 1 (Some (item_key 3)) (Some (customer_key 1) ∷ Some (ordr_key 1) ∷ Some (item_key 3) ∷ [])
          (member (customer_key 1) (ordr_key 1) ∷ member (ordr_key 1) (item_key 3) ∷ None ∷ [])
          (Some (ordr_key 1) ∷ Some (item_key 3) ∷ []) (Some Update ∷ Some Update ∷ []) ([])
          ∷ [];
    }
unfolding effect image_of
members_with_equal_keys = refl

-- FIRST, NEXT to the end and past it, PRIOR, LAST, a number from the end, a number too great
pub first_next_prior_last_nth : run shop 100 1 (by 1 (
    OpenArea main Update ∷ OpenArea side Update ∷ store customers (Num 7 ∷ text "ADA     " ∷ [])
    ∷ store orders (Num 1 ∷ []) ∷ store items (text "A   " ∷ Num 5 ∷ []) ∷ store items (text "B   " ∷ Num 5 ∷ [])
    ∷ store items (text "C   " ∷ Num 5 ∷ []) ∷ find_in_set First lines ∷ find_in_set Next lines
    ∷ find_in_set Next lines ∷ find_in_set Next lines ∷ find_in_set Prior lines ∷ find_in_set Last lines
    ∷ find_in_set (Nth (negsuc 2)) lines ∷ find_in_set (Nth (pos 4)) lines ∷ []))
    ≡ record {
      answers =
          done ∷ done ∷ found (customer_key 1) ∷ found (ordr_key 1) ∷ found (item_key 1) ∷ found (item_key 2)
          ∷ found (item_key 3) ∷ found (item_key 1) ∷ found (item_key 2) ∷ found (item_key 3) ∷ no End
          ∷ found (item_key 2) ∷ found (item_key 3) ∷ found (item_key 1) ∷ no End ∷ [];
      records =
          (customer_key 1, Num 7 ∷ text "ADA     " ∷ []) ∷ (ordr_key 1, Num 1 ∷ [])
          ∷ (item_key 1, text "A   " ∷ Num 5 ∷ []) ∷ (item_key 2, text "B   " ∷ Num 5 ∷ [])
          ∷ (item_key 3, text "C   " ∷ Num 5 ∷ []) ∷ [];
      lists =
          ((Rec (customer_key 1), ordr_key 1 ∷ []) ∷ [])
          ∷ ((Rec (ordr_key 1), item_key 1 ∷ item_key 2 ∷ item_key 3 ∷ []) ∷ [])
          ∷ ((System, []) ∷ [])
          ∷ [];
      next = 2 ∷ 2 ∷ 4 ∷ [];
      usage = ((1, Update) ∷ []) ∷ ((1, Update) ∷ []) ∷ [];
      units =
          unit 1 (Some (item_key 1)) (Some (customer_key 1) ∷ Some (ordr_key 1) ∷ Some (item_key 1) ∷ [])
          (member (customer_key 1) (ordr_key 1) ∷ member (ordr_key 1) (item_key 1) ∷ None ∷ [])
          (Some (ordr_key 1) ∷ Some (item_key 1) ∷ []) (Some Update ∷ Some Update ∷ []) ([])
          ∷ [];
    }
unfolding effect image_of
first_next_prior_last_nth = refl

-- by CALC items and on to the next with the same ones; by sort key
pub by_value_and_by_sort_key : run shop 100 1 (by 1 (
    OpenArea main Update ∷ OpenArea side Update ∷ store customers (Num 7 ∷ text "ADA     " ∷ [])
    ∷ store orders (Num 1 ∷ []) ∷ store items (text "A   " ∷ Num 1 ∷ []) ∷ store items (text "B   " ∷ Num 2 ∷ [])
    ∷ store items (text "A   " ∷ Num 3 ∷ []) ∷ find (Calc items (text "A   " ∷ [])) ∷ find (NextDuplicate items)
    ∷ find (NextDuplicate items) ∷ find (Sorted lines (Num 2)) ∷ find (Sorted lines (Num 9)) ∷ []))
    ≡ record {
      answers =
          done ∷ done ∷ found (customer_key 1) ∷ found (ordr_key 1) ∷ found (item_key 1) ∷ found (item_key 2)
          ∷ found (item_key 3) ∷ found (item_key 1) ∷ found (item_key 3) ∷ no End ∷ found (item_key 2)
          ∷ no NoneSatisfies ∷ [];
      records =
          (customer_key 1, Num 7 ∷ text "ADA     " ∷ []) ∷ (ordr_key 1, Num 1 ∷ [])
          ∷ (item_key 1, text "A   " ∷ Num 1 ∷ []) ∷ (item_key 2, text "B   " ∷ Num 2 ∷ [])
          ∷ (item_key 3, text "A   " ∷ Num 3 ∷ []) ∷ [];
      lists =
          ((Rec (customer_key 1), ordr_key 1 ∷ []) ∷ [])
          ∷ ((Rec (ordr_key 1), item_key 1 ∷ item_key 2 ∷ item_key 3 ∷ []) ∷ [])
          ∷ ((System, []) ∷ [])
          ∷ [];
      next = 2 ∷ 2 ∷ 4 ∷ [];
      usage = ((1, Update) ∷ []) ∷ ((1, Update) ∷ []) ∷ [];
      units =
          unit 1 (Some (item_key 2)) (Some (customer_key 1) ∷ Some (ordr_key 1) ∷ Some (item_key 2) ∷ [])
          (member (customer_key 1) (ordr_key 1) ∷ member (ordr_key 1) (item_key 2) ∷ None ∷ [])
          (Some (ordr_key 1) ∷ Some (item_key 2) ∷ []) (Some Update ∷ Some Update ∷ []) ([])
          ∷ [];
    }
unfolding effect image_of
by_value_and_by_sort_key = refl
