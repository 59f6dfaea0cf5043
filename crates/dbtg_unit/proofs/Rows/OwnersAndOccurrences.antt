-- The occurrence of an owner: there at once, and empty.
use Rattle.std.specs.Prelude.{◌≡◌, refl, [], ◌∷◌, Some, None}
use Rattle.dbtg_cells.specs.declared.key.Owner.TheVariants.{System, Rec}
use Rattle.dbtg_cells.specs.declared.key.Value.TheVariants.{Num}
use Rattle.dbtg_cells.specs.declared.usage.Mode.TheVariants.{Update}
use Rattle.dbtg_unit.specs.declared.statement.Form.TheVariants.{OwnerOf}
use Rattle.dbtg_unit.specs.declared.statement.Statement.TheVariants.{OpenArea}
use Rattle.dbtg_unit.specs.declared.statement.Which.TheVariants.{First}
use Rattle.dbtg_unit.specs.declared.unit.Cause.TheVariants.{End, NoSuchCurrent}
use Rattle.dbtg_unit.specs.Database.Statements.Effect.{effect}
use Rattle.dbtg_unit.specs.Database.State.Image.{image_of}
use Rattle.dbtg_unit.proofs.Rows.Defined.Schemas.{shop, main, side, customers, orders, lines}
use Rattle.dbtg_unit.proofs.Rows.Words.{find, find_in_set, store, by, customer_key, ordr_key, owner_itself, member, done, found, no, run, unit, text}

-- an automatic member wants a current owner
pub no_current_owner : run shop 100 1 (by 1 (
    OpenArea main Update ∷ store orders (Num 1 ∷ []) ∷ []))
    ≡ record {
      answers =
          done ∷ no NoSuchCurrent ∷ [];
      records =
          [];
      lists =
          ([])
          ∷ ([])
          ∷ ((System, []) ∷ [])
          ∷ [];
      next = 1 ∷ 1 ∷ 1 ∷ [];
      usage = ((1, Update) ∷ []) ∷ ([]) ∷ [];
      units =
          unit 1 None (None ∷ None ∷ None ∷ [])
          (None ∷ None ∷ None ∷ [])
          (None ∷ None ∷ []) (Some Update ∷ None ∷ []) ([])
          ∷ [];
    }
unfolding effect image_of
no_current_owner = refl

-- an owner with its member; the member owns an empty occurrence itself
pub owner_and_member : run shop 100 1 (by 1 (
    OpenArea main Update ∷ OpenArea side Update ∷ store customers (Num 7 ∷ text "ADA     " ∷ [])
    ∷ store orders (Num 1 ∷ []) ∷ []))
    ≡ record {
      answers =
          done ∷ done ∷ found (customer_key 1) ∷ found (ordr_key 1) ∷ [];
      records =
          (customer_key 1, Num 7 ∷ text "ADA     " ∷ []) ∷ (ordr_key 1, Num 1 ∷ []) ∷ [];
      lists =
          ((Rec (customer_key 1), ordr_key 1 ∷ []) ∷ [])
          ∷ ((Rec (ordr_key 1), []) ∷ [])
          ∷ ((System, []) ∷ [])
          ∷ [];
      next = 2 ∷ 2 ∷ 1 ∷ [];
      usage = ((1, Update) ∷ []) ∷ ((1, Update) ∷ []) ∷ [];
      units =
          unit 1 (Some (ordr_key 1)) (Some (customer_key 1) ∷ Some (ordr_key 1) ∷ None ∷ [])
          (member (customer_key 1) (ordr_key 1) ∷ owner_itself (ordr_key 1) ∷ None ∷ [])
          (Some (ordr_key 1) ∷ None ∷ []) (Some Update ∷ Some Update ∷ []) ([])
          ∷ [];
    }
unfolding effect image_of
owner_and_member = refl

-- nothing is first in an empty occurrence, and a refused FIND moves no currency
pub empty_occurrence : run shop 100 1 (by 1 (
    OpenArea main Update ∷ OpenArea side Update ∷ store customers (Num 7 ∷ text "ADA     " ∷ [])
    ∷ store orders (Num 1 ∷ []) ∷ find_in_set First lines ∷ []))
    ≡ record {
      answers =
          done ∷ done ∷ found (customer_key 1) ∷ found (ordr_key 1) ∷ no End ∷ [];
      records =
          (customer_key 1, Num 7 ∷ text "ADA     " ∷ []) ∷ (ordr_key 1, Num 1 ∷ []) ∷ [];
      lists =
          ((Rec (customer_key 1), ordr_key 1 ∷ []) ∷ [])
          ∷ ((Rec (ordr_key 1), []) ∷ [])
          ∷ ((System, []) ∷ [])
          ∷ [];
      next = 2 ∷ 2 ∷ 1 ∷ [];
      usage = ((1, Update) ∷ []) ∷ ((1, Update) ∷ []) ∷ [];
      units =
          unit 1 (Some (ordr_key 1)) (Some (customer_key 1) ∷ Some (ordr_key 1) ∷ None ∷ [])
          (member (customer_key 1) (ordr_key 1) ∷ owner_itself (ordr_key 1) ∷ None ∷ [])
          (Some (ordr_key 1) ∷ None ∷ []) (Some Update ∷ Some Update ∷ []) ([])
          ∷ [];
    }
unfolding effect image_of
empty_occurrence = refl

-- its owner is found all the same
pub owner_of_empty_occurrence : run shop 100 1 (by 1 (
    OpenArea main Update ∷ OpenArea side Update ∷ store customers (Num 7 ∷ text "ADA     " ∷ [])
    ∷ store orders (Num 1 ∷ []) ∷ find_in_set First lines ∷ find (OwnerOf lines) ∷ []))
    ≡ record {
      answers =
          done ∷ done ∷ found (customer_key 1) ∷ found (ordr_key 1) ∷ no End ∷ found (ordr_key 1) ∷ [];
      records =
          (customer_key 1, Num 7 ∷ text "ADA     " ∷ []) ∷ (ordr_key 1, Num 1 ∷ []) ∷ [];
      lists =
          ((Rec (customer_key 1), ordr_key 1 ∷ []) ∷ [])
          ∷ ((Rec (ordr_key 1), []) ∷ [])
          ∷ ((System, []) ∷ [])
          ∷ [];
      next = 2 ∷ 2 ∷ 1 ∷ [];
      usage = ((1, Update) ∷ []) ∷ ((1, Update) ∷ []) ∷ [];
      units =
          unit 1 (Some (ordr_key 1)) (Some (customer_key 1) ∷ Some (ordr_key 1) ∷ None ∷ [])
          (member (customer_key 1) (ordr_key 1) ∷ owner_itself (ordr_key 1) ∷ None ∷ [])
          (Some (ordr_key 1) ∷ None ∷ []) (Some Update ∷ Some Update ∷ []) ([])
          ∷ [];
    }
unfolding effect image_of
owner_of_empty_occurrence = refl
