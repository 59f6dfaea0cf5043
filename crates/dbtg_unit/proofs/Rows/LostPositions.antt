-- A set of SYSTEM with ORDER NEXT, and what becomes of a position whose member is taken out.
use Rattle.std.specs.Prelude.{◌≡◌, refl, [], ◌∷◌, Some}
use Rattle.dbtg_cells.specs.declared.key.Owner.TheVariants.{System, Rec}
use Rattle.dbtg_cells.specs.declared.key.Value.TheVariants.{Num}
use Rattle.dbtg_cells.specs.declared.usage.Mode.TheVariants.{Update}
use Rattle.dbtg_unit.specs.declared.statement.Form.TheVariants.{Key}
use Rattle.dbtg_unit.specs.declared.statement.Statement.TheVariants.{OpenArea, Insert, Remove}
use Rattle.dbtg_unit.specs.declared.statement.Which.TheVariants.{First, Prior}
use Rattle.dbtg_unit.specs.declared.unit.Cause.TheVariants.{AlreadyMember, End, PositionLost}
use Rattle.dbtg_unit.specs.Database.Statements.Effect.{effect}
use Rattle.dbtg_unit.specs.Database.State.Image.{image_of}
use Rattle.dbtg_unit.proofs.Rows.Defined.Schemas.{shop, main, side, customers, orders, items, watch}
use Rattle.dbtg_unit.proofs.Rows.Words.{find, find_in_set, store, by, customer_key, ordr_key, item_key, member, member_of_system, done, found, no, run, unit, text}

-- the first member
pub inserted_first : run shop 100 1 (by 1 (
    OpenArea main Update ∷ OpenArea side Update ∷ store customers (Num 7 ∷ text "ADA     " ∷ [])
    ∷ store orders (Num 1 ∷ []) ∷ store items (text "A   " ∷ Num 5 ∷ []) ∷ store items (text "B   " ∷ Num 5 ∷ [])
    ∷ store items (text "C   " ∷ Num 5 ∷ []) ∷ Insert watch ∷ []))
    ≡ record {
      answers =
          done ∷ done ∷ found (customer_key 1) ∷ found (ordr_key 1) ∷ found (item_key 1) ∷ found (item_key 2)
          ∷ found (item_key 3) ∷ done ∷ [];
      records =
          (customer_key 1, Num 7 ∷ text "ADA     " ∷ []) ∷ (ordr_key 1, Num 1 ∷ [])
          ∷ (item_key 1, text "A   " ∷ Num 5 ∷ []) ∷ (item_key 2, text "B   " ∷ Num 5 ∷ [])
          ∷ (item_key 3, text "C   " ∷ Num 5 ∷ []) ∷ [];
      lists =
          ((Rec (customer_key 1), ordr_key 1 ∷ []) ∷ [])
          ∷ ((Rec (ordr_key 1), item_key 1 ∷ item_key 2 ∷ item_key 3 ∷ []) ∷ [])
          ∷ ((System, item_key 3 ∷ []) ∷ [])
          ∷ [];
      next = 2 ∷ 2 ∷ 4 ∷ [];
      usage = ((1, Update) ∷ []) ∷ ((1, Update) ∷ []) ∷ [];
      units =
          unit 1 (Some (item_key 3)) (Some (customer_key 1) ∷ Some (ordr_key 1) ∷ Some (item_key 3) ∷ [])
          (member (customer_key 1) (ordr_key 1) ∷ member (ordr_key 1) (item_key 3) ∷ member_of_system (item_key 3) ∷ [])
          (Some (ordr_key 1) ∷ Some (item_key 3) ∷ []) (Some Update ∷ Some Update ∷ []) ([])
          ∷ [];
    }
unfolding effect image_of
inserted_first = refl

-- not twice; the next one directly after the current of set
pub inserted_next : run shop 100 1 (by 1 (
    OpenArea main Update ∷ OpenArea side Update ∷ store customers (Num 7 ∷ text "ADA     " ∷ [])
    ∷ store orders (Num 1 ∷ []) ∷ store items (text "A   " ∷ Num 5 ∷ []) ∷ store items (text "B   " ∷ Num 5 ∷ [])
    ∷ store items (text "C   " ∷ Num 5 ∷ []) ∷ Insert watch ∷ Insert watch ∷ find (Key (item_key 1))
    ∷ Insert watch ∷ []))
    ≡ record {
      answers =
          done ∷ done ∷ found (customer_key 1) ∷ found (ordr_key 1) ∷ found (item_key 1) ∷ found (item_key 2)
          ∷ found (item_key 3) ∷ done ∷ no AlreadyMember ∷ found (item_key 1) ∷ done ∷ [];
      records =
          (customer_key 1, Num 7 ∷ text "ADA     " ∷ []) ∷ (ordr_key 1, Num 1 ∷ [])
          ∷ (item_key 1, text "A   " ∷ Num 5 ∷ []) ∷ (item_key 2, text "B   " ∷ Num 5 ∷ [])
          ∷ (item_key 3, text "C   " ∷ Num 5 ∷ []) ∷ [];
      lists =
          ((Rec (customer_key 1), ordr_key 1 ∷ []) ∷ [])
          ∷ ((Rec (ordr_key 1), item_key 1 ∷ item_key 2 ∷ item_key 3 ∷ []) ∷ [])
          ∷ ((System, item_key 3 ∷ item_key 1 ∷ []) ∷ [])
          ∷ [];
      next = 2 ∷ 2 ∷ 4 ∷ [];
      usage = ((1, Update) ∷ []) ∷ ((1, Update) ∷ []) ∷ [];
      units =
          unit 1 (Some (item_key 1)) (Some (customer_key 1) ∷ Some (ordr_key 1) ∷ Some (item_key 1) ∷ [])
          (member (customer_key 1) (ordr_key 1) ∷ member (ordr_key 1) (item_key 1) ∷ member_of_system (item_key 1) ∷ [])
          (Some (ordr_key 1) ∷ Some (item_key 1) ∷ []) (Some Update ∷ Some Update ∷ []) ([])
          ∷ [];
    }
unfolding effect image_of
inserted_next = refl

-- taken out; the position names it still
pub taken_out : run shop 100 1 (by 1 (
    OpenArea main Update ∷ OpenArea side Update ∷ store customers (Num 7 ∷ text "ADA     " ∷ [])
    ∷ store orders (Num 1 ∷ []) ∷ store items (text "A   " ∷ Num 5 ∷ []) ∷ store items (text "B   " ∷ Num 5 ∷ [])
    ∷ store items (text "C   " ∷ Num 5 ∷ []) ∷ Insert watch ∷ Insert watch ∷ find (Key (item_key 1))
    ∷ Insert watch ∷ find (Key (item_key 3)) ∷ Remove watch ∷ []))
    ≡ record {
      answers =
          done ∷ done ∷ found (customer_key 1) ∷ found (ordr_key 1) ∷ found (item_key 1) ∷ found (item_key 2)
          ∷ found (item_key 3) ∷ done ∷ no AlreadyMember ∷ found (item_key 1) ∷ done ∷ found (item_key 3) ∷ done ∷ [];
      records =
          (customer_key 1, Num 7 ∷ text "ADA     " ∷ []) ∷ (ordr_key 1, Num 1 ∷ [])
          ∷ (item_key 1, text "A   " ∷ Num 5 ∷ []) ∷ (item_key 2, text "B   " ∷ Num 5 ∷ [])
          ∷ (item_key 3, text "C   " ∷ Num 5 ∷ []) ∷ [];
      lists =
          ((Rec (customer_key 1), ordr_key 1 ∷ []) ∷ [])
          ∷ ((Rec (ordr_key 1), item_key 1 ∷ item_key 2 ∷ item_key 3 ∷ []) ∷ [])
          ∷ ((System, item_key 1 ∷ []) ∷ [])
          ∷ [];
      next = 2 ∷ 2 ∷ 4 ∷ [];
      usage = ((1, Update) ∷ []) ∷ ((1, Update) ∷ []) ∷ [];
      units =
          unit 1 (Some (item_key 3)) (Some (customer_key 1) ∷ Some (ordr_key 1) ∷ Some (item_key 3) ∷ [])
          (member (customer_key 1) (ordr_key 1) ∷ member (ordr_key 1) (item_key 3) ∷ member_of_system (item_key 3) ∷ [])
          (Some (ordr_key 1) ∷ Some (item_key 3) ∷ []) (Some Update ∷ Some Update ∷ []) ([])
          ∷ [];
    }
unfolding effect image_of
taken_out = refl

-- an INSERT at the lost position is refused; a FIND from the front is not
pub position_lost : run shop 100 1 (by 1 (
    OpenArea main Update ∷ OpenArea side Update ∷ store customers (Num 7 ∷ text "ADA     " ∷ [])
    ∷ store orders (Num 1 ∷ []) ∷ store items (text "A   " ∷ Num 5 ∷ []) ∷ store items (text "B   " ∷ Num 5 ∷ [])
    ∷ store items (text "C   " ∷ Num 5 ∷ []) ∷ Insert watch ∷ Insert watch ∷ find (Key (item_key 1))
    ∷ Insert watch ∷ find (Key (item_key 3)) ∷ Remove watch ∷ find (Key (item_key 2)) ∷ Insert watch
    ∷ find_in_set First watch ∷ find_in_set Prior watch ∷ []))
    ≡ record {
      answers =
          done ∷ done ∷ found (customer_key 1) ∷ found (ordr_key 1) ∷ found (item_key 1) ∷ found (item_key 2)
          ∷ found (item_key 3) ∷ done ∷ no AlreadyMember ∷ found (item_key 1) ∷ done ∷ found (item_key 3) ∷ done
          ∷ found (item_key 2) ∷ no PositionLost ∷ found (item_key 1) ∷ no End ∷ [];
      records =
          (customer_key 1, Num 7 ∷ text "ADA     " ∷ []) ∷ (ordr_key 1, Num 1 ∷ [])
          ∷ (item_key 1, text "A   " ∷ Num 5 ∷ []) ∷ (item_key 2, text "B   " ∷ Num 5 ∷ [])
          ∷ (item_key 3, text "C   " ∷ Num 5 ∷ []) ∷ [];
      lists =
          ((Rec (customer_key 1), ordr_key 1 ∷ []) ∷ [])
          ∷ ((Rec (ordr_key 1), item_key 1 ∷ item_key 2 ∷ item_key 3 ∷ []) ∷ [])
          ∷ ((System, item_key 1 ∷ []) ∷ [])
          ∷ [];
      next = 2 ∷ 2 ∷ 4 ∷ [];
      usage = ((1, Update) ∷ []) ∷ ((1, Update) ∷ []) ∷ [];
      units =
          unit 1 (Some (item_key 1)) (Some (customer_key 1) ∷ Some (ordr_key 1) ∷ Some (item_key 1) ∷ [])
          (member (customer_key 1) (ordr_key 1) ∷ member (ordr_key 1) (item_key 1) ∷ member_of_system (item_key 1) ∷ [])
          (Some (ordr_key 1) ∷ Some (item_key 1) ∷ []) (Some Update ∷ Some Update ∷ []) ([])
          ∷ [];
    }
unfolding effect image_of
position_lost = refl
