-- A changed sort key moves the member.
use Rattle.std.specs.Prelude.{◌≡◌, refl, [], ◌∷◌, Some, None}
use Rattle.dbtg_cells.specs.declared.key.Owner.TheVariants.{System, Rec}
use Rattle.dbtg_cells.specs.declared.key.Value.TheVariants.{Num}
use Rattle.dbtg_cells.specs.declared.usage.Mode.TheVariants.{Update}
use Rattle.dbtg_unit.specs.declared.statement.Form.TheVariants.{Key}
use Rattle.dbtg_unit.specs.declared.statement.Statement.TheVariants.{OpenArea, Get}
use Rattle.dbtg_unit.specs.declared.statement.Which.TheVariants.{Next}
use Rattle.dbtg_unit.specs.Database.Statements.Effect.{effect}
use Rattle.dbtg_unit.specs.Database.State.Image.{image_of}
use Rattle.dbtg_unit.proofs.Rows.Defined.Schemas.{shop, main, side, customers, orders, items, lines}
use Rattle.dbtg_unit.proofs.Rows.Words.{find, find_in_set, store, modify, by, customer_key, ordr_key, item_key, member, done, found, got, run, unit, text}

-- behind its equal, where duplicates are LAST; the position goes on from the new place
pub moved_behind_its_equal : run shop 100 1 (by 1 (
    OpenArea main Update ∷ OpenArea side Update ∷ store customers (Num 7 ∷ text "ADA     " ∷ [])
    ∷ store orders (Num 1 ∷ []) ∷ store items (text "A   " ∷ Num 1 ∷ []) ∷ store items (text "B   " ∷ Num 2 ∷ [])
    ∷ store items (text "C   " ∷ Num 3 ∷ []) ∷ find (Key (item_key 1)) ∷ modify items 1 (Num 2) ∷ Get None
    ∷ find_in_set Next lines ∷ []))
    ≡ record {
      answers =
          done ∷ done ∷ found (customer_key 1) ∷ found (ordr_key 1) ∷ found (item_key 1) ∷ found (item_key 2)
          ∷ found (item_key 3) ∷ found (item_key 1) ∷ done ∷ got (item_key 1) (text "A   " ∷ Num 2 ∷ [])
          ∷ found (item_key 3) ∷ [];
      records =
          (customer_key 1, Num 7 ∷ text "ADA     " ∷ []) ∷ (ordr_key 1, Num 1 ∷ [])
          ∷ (item_key 1, text "A   " ∷ Num 2 ∷ []) ∷ (item_key 2, text "B   " ∷ Num 2 ∷ [])
          ∷ (item_key 3, text "C   " ∷ Num 3 ∷ []) ∷ [];
      lists =
          ((Rec (customer_key 1), ordr_key 1 ∷ []) ∷ [])
          ∷ ((Rec (ordr_key 1), item_key 2 ∷ item_key 1 ∷ item_key 3 ∷ []) ∷ [])
          ∷ ((System, []) ∷ [])
          ∷ [];
      next = 2 ∷ 2 ∷ 4 ∷ [];
      usage = ((1, Update) ∷ []) ∷ ((1, Update) ∷ []) ∷ [];
      units =
          unit 1 (Some (item_key 3)) (Some (customer_key 1) ∷ Some (ordr_key 1) ∷ Some (item_key 3) ∷ [])
          (member (customer_key 1) (ordr_key 1) ∷ member (ordr_key 1) (item_key 3) ∷ None ∷ [])
          (Some (ordr_key 1) ∷ Some (item_key 3) ∷ []) (Some Update ∷ Some Update ∷ []) ([])
          ∷ [];
    }
unfolding effect image_of
moved_behind_its_equal = refl
