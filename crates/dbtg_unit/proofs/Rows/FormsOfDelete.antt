-- What each form of DELETE takes.
use Rattle.std.specs.Prelude.{◌≡◌, refl, [], ◌∷◌, Some, None}
use Rattle.dbtg_cells.specs.declared.key.Owner.TheVariants.{System, Rec}
use Rattle.dbtg_cells.specs.declared.key.Value.TheVariants.{Num}
use Rattle.dbtg_cells.specs.declared.usage.Mode.TheVariants.{Update}
use Rattle.dbtg_unit.specs.declared.statement.Erase.TheVariants.{Plain, Only, Selective, All}
use Rattle.dbtg_unit.specs.declared.statement.Form.TheVariants.{OwnerOf}
use Rattle.dbtg_unit.specs.declared.statement.Statement.TheVariants.{OpenArea, Get, Insert, Delete}
use Rattle.dbtg_unit.specs.declared.statement.Which.TheVariants.{First}
use Rattle.dbtg_unit.specs.declared.unit.Cause.TheVariants.{NoCurrentOfRunUnit, OwnerHasMembers}
use Rattle.dbtg_unit.specs.Database.Statements.Effect.{effect}
use Rattle.dbtg_unit.specs.Database.State.Image.{image_of}
use Rattle.dbtg_unit.proofs.Rows.Defined.Schemas.{shop, main, side, customers, orders, items, lines, watch}
use Rattle.dbtg_unit.proofs.Rows.Words.{find, find_in_set, store, by, customer_key, ordr_key, item_key, owner_itself, member, member_of_system, done, found, no, run, unit, text}

-- an order with two lines, one of which another set has as well
pub before_the_delete : run shop 100 1 (by 1 (
    OpenArea main Update ∷ OpenArea side Update ∷ store customers (Num 7 ∷ text "ADA     " ∷ [])
    ∷ store orders (Num 1 ∷ []) ∷ store items (text "    " ∷ Num 1 ∷ []) ∷ Insert watch
    ∷ store items (text "    " ∷ Num 2 ∷ []) ∷ find (OwnerOf lines) ∷ []))
    ≡ record {
      answers =
          done ∷ done ∷ found (customer_key 1) ∷ found (ordr_key 1) ∷ found (item_key 1) ∷ done ∷ found (item_key 2)
          ∷ found (ordr_key 1) ∷ [];
      records =
          (customer_key 1, Num 7 ∷ text "ADA     " ∷ []) ∷ (ordr_key 1, Num 1 ∷ [])
          ∷ (item_key 1, text "    " ∷ Num 1 ∷ []) ∷ (item_key 2, text "    " ∷ Num 2 ∷ []) ∷ [];
      lists =
          ((Rec (customer_key 1), ordr_key 1 ∷ []) ∷ [])
          ∷ ((Rec (ordr_key 1), item_key 1 ∷ item_key 2 ∷ []) ∷ [])
          ∷ ((System, item_key 1 ∷ []) ∷ [])
          ∷ [];
      next = 2 ∷ 2 ∷ 3 ∷ [];
      usage = ((1, Update) ∷ []) ∷ ((1, Update) ∷ []) ∷ [];
      units =
          unit 1 (Some (ordr_key 1)) (Some (customer_key 1) ∷ Some (ordr_key 1) ∷ Some (item_key 2) ∷ [])
          (member (customer_key 1) (ordr_key 1) ∷ owner_itself (ordr_key 1) ∷ member_of_system (item_key 1) ∷ [])
          (Some (ordr_key 1) ∷ Some (item_key 2) ∷ []) (Some Update ∷ Some Update ∷ []) ([])
          ∷ [];
    }
unfolding effect image_of
before_the_delete = refl

-- ONLY: the members that are not mandatory stay, taken out
pub delete_only : run shop 100 1 (by 1 (
    OpenArea main Update ∷ OpenArea side Update ∷ store customers (Num 7 ∷ text "ADA     " ∷ [])
    ∷ store orders (Num 1 ∷ []) ∷ store items (text "    " ∷ Num 1 ∷ []) ∷ Insert watch
    ∷ store items (text "    " ∷ Num 2 ∷ []) ∷ find (OwnerOf lines) ∷ Delete Only ∷ []))
    ≡ record {
      answers =
          done ∷ done ∷ found (customer_key 1) ∷ found (ordr_key 1) ∷ found (item_key 1) ∷ done ∷ found (item_key 2)
          ∷ found (ordr_key 1) ∷ done ∷ [];
      records =
          (customer_key 1, Num 7 ∷ text "ADA     " ∷ []) ∷ (item_key 1, text "    " ∷ Num 1 ∷ [])
          ∷ (item_key 2, text "    " ∷ Num 2 ∷ []) ∷ [];
      lists =
          ((Rec (customer_key 1), []) ∷ [])
          ∷ ([])
          ∷ ((System, item_key 1 ∷ []) ∷ [])
          ∷ [];
      next = 2 ∷ 1 ∷ 3 ∷ [];
      usage = ((1, Update) ∷ []) ∷ ((1, Update) ∷ []) ∷ [];
      units =
          unit 1 None (Some (customer_key 1) ∷ Some (ordr_key 1) ∷ Some (item_key 2) ∷ [])
          (member (customer_key 1) (ordr_key 1) ∷ owner_itself (ordr_key 1) ∷ member_of_system (item_key 1) ∷ [])
          (Some (ordr_key 1) ∷ Some (item_key 2) ∷ []) (Some Update ∷ Some Update ∷ []) ([])
          ∷ [];
    }
unfolding effect image_of
delete_only = refl

-- SELECTIVE: of the optional members the one that is in no other list goes too
pub delete_selective : run shop 100 1 (by 1 (
    OpenArea main Update ∷ OpenArea side Update ∷ store customers (Num 7 ∷ text "ADA     " ∷ [])
    ∷ store orders (Num 1 ∷ []) ∷ store items (text "    " ∷ Num 1 ∷ []) ∷ Insert watch
    ∷ store items (text "    " ∷ Num 2 ∷ []) ∷ find (OwnerOf lines) ∷ Delete Selective ∷ []))
    ≡ record {
      answers =
          done ∷ done ∷ found (customer_key 1) ∷ found (ordr_key 1) ∷ found (item_key 1) ∷ done ∷ found (item_key 2)
          ∷ found (ordr_key 1) ∷ done ∷ [];
      records =
          (customer_key 1, Num 7 ∷ text "ADA     " ∷ []) ∷ (item_key 1, text "    " ∷ Num 1 ∷ []) ∷ [];
      lists =
          ((Rec (customer_key 1), []) ∷ [])
          ∷ ([])
          ∷ ((System, item_key 1 ∷ []) ∷ [])
          ∷ [];
      next = 2 ∷ 1 ∷ 2 ∷ [];
      usage = ((1, Update) ∷ []) ∷ ((1, Update) ∷ []) ∷ [];
      units =
          unit 1 None (Some (customer_key 1) ∷ Some (ordr_key 1) ∷ Some (item_key 2) ∷ [])
          (member (customer_key 1) (ordr_key 1) ∷ owner_itself (ordr_key 1) ∷ member_of_system (item_key 1) ∷ [])
          (Some (ordr_key 1) ∷ Some (item_key 2) ∷ []) (Some Update ∷ Some Update ∷ []) ([])
          ∷ [];
    }
unfolding effect image_of
delete_selective = refl

-- ALL: every member goes
pub delete_all : run shop 100 1 (by 1 (
    OpenArea main Update ∷ OpenArea side Update ∷ store customers (Num 7 ∷ text "ADA     " ∷ [])
    ∷ store orders (Num 1 ∷ []) ∷ store items (text "    " ∷ Num 1 ∷ []) ∷ Insert watch
    ∷ store items (text "    " ∷ Num 2 ∷ []) ∷ find (OwnerOf lines) ∷ Delete All ∷ []))
    ≡ record {
      answers =
          done ∷ done ∷ found (customer_key 1) ∷ found (ordr_key 1) ∷ found (item_key 1) ∷ done ∷ found (item_key 2)
          ∷ found (ordr_key 1) ∷ done ∷ [];
      records =
          (customer_key 1, Num 7 ∷ text "ADA     " ∷ []) ∷ [];
      lists =
          ((Rec (customer_key 1), []) ∷ [])
          ∷ ([])
          ∷ ((System, []) ∷ [])
          ∷ [];
      next = 2 ∷ 1 ∷ 1 ∷ [];
      usage = ((1, Update) ∷ []) ∷ ((1, Update) ∷ []) ∷ [];
      units =
          unit 1 None (Some (customer_key 1) ∷ Some (ordr_key 1) ∷ Some (item_key 2) ∷ [])
          (member (customer_key 1) (ordr_key 1) ∷ owner_itself (ordr_key 1) ∷ member_of_system (item_key 1) ∷ [])
          (Some (ordr_key 1) ∷ Some (item_key 2) ∷ []) (Some Update ∷ Some Update ∷ []) ([])
          ∷ [];
    }
unfolding effect image_of
delete_all = refl

-- the plain form is refused while there are members; afterwards nothing is current of run-unit
pub delete_plain : run shop 100 1 (by 1 (
    OpenArea main Update ∷ OpenArea side Update ∷ store customers (Num 7 ∷ text "ADA     " ∷ [])
    ∷ store orders (Num 1 ∷ []) ∷ store items (text "    " ∷ Num 1 ∷ []) ∷ find (OwnerOf lines) ∷ Delete Plain
    ∷ find_in_set First lines ∷ Delete Plain ∷ find (OwnerOf lines) ∷ Delete Plain ∷ Get None ∷ []))
    ≡ record {
      answers =
          done ∷ done ∷ found (customer_key 1) ∷ found (ordr_key 1) ∷ found (item_key 1) ∷ found (ordr_key 1)
          ∷ no OwnerHasMembers ∷ found (item_key 1) ∷ done ∷ found (ordr_key 1) ∷ done ∷ no NoCurrentOfRunUnit ∷ [];
      records =
          (customer_key 1, Num 7 ∷ text "ADA     " ∷ []) ∷ [];
      lists =
          ((Rec (customer_key 1), []) ∷ [])
          ∷ ([])
          ∷ ((System, []) ∷ [])
          ∷ [];
      next = 2 ∷ 1 ∷ 1 ∷ [];
      usage = ((1, Update) ∷ []) ∷ ((1, Update) ∷ []) ∷ [];
      units =
          unit 1 None (Some (customer_key 1) ∷ Some (ordr_key 1) ∷ Some (item_key 1) ∷ [])
          (member (customer_key 1) (ordr_key 1) ∷ owner_itself (ordr_key 1) ∷ None ∷ [])
          (Some (ordr_key 1) ∷ Some (item_key 1) ∷ []) (Some Update ∷ Some Update ∷ []) ([])
          ∷ [];
    }
unfolding effect image_of
delete_plain = refl
