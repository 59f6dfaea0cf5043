-- A current that another unit has deleted.
use Rattle.std.specs.Prelude.{◌≡◌, refl, [], ◌∷◌, ◌++◌, Some, None}
use Rattle.dbtg_cells.specs.declared.key.Owner.TheVariants.{System, Rec}
use Rattle.dbtg_cells.specs.declared.key.Value.TheVariants.{Num}
use Rattle.dbtg_cells.specs.declared.usage.Mode.TheVariants.{Update}
use Rattle.dbtg_unit.specs.declared.statement.Erase.TheVariants.{Plain}
use Rattle.dbtg_unit.specs.declared.statement.Form.TheVariants.{Key}
use Rattle.dbtg_unit.specs.declared.statement.Statement.TheVariants.{OpenArea, Get, Delete}
use Rattle.dbtg_unit.specs.declared.statement.Which.TheVariants.{Next}
use Rattle.dbtg_unit.specs.declared.unit.Cause.TheVariants.{Deleted}
use Rattle.dbtg_unit.specs.Database.Statements.Effect.{effect}
use Rattle.dbtg_unit.specs.Database.State.Image.{image_of}
use Rattle.dbtg_unit.proofs.Rows.Defined.Schemas.{shop, main, side, customers}
use Rattle.dbtg_unit.proofs.Rows.Words.{find, find_in_area, store, by, customer_key, owner_itself, done, found, no, run, unit, text}

-- GET finds it out; NEXT goes on from its key
pub found_out_at_use : run shop 100 2 (by 1 (
    OpenArea main Update ∷ OpenArea side Update ∷ store customers (Num 7 ∷ text "        " ∷ [])
    ∷ store customers (Num 8 ∷ text "        " ∷ []) ∷ find (Key (customer_key 1)) ∷ [])
    ++ by 2 (
    OpenArea main Update ∷ OpenArea side Update ∷ find (Key (customer_key 1)) ∷ Delete Plain ∷ [])
    ++ by 1 (
    Get None ∷ find_in_area Next main ∷ []))
    ≡ record {
      answers =
          done ∷ done ∷ found (customer_key 1) ∷ found (customer_key 2) ∷ found (customer_key 1) ∷ done ∷ done
          ∷ found (customer_key 1) ∷ done ∷ no Deleted ∷ found (customer_key 2) ∷ [];
      records =
          (customer_key 2, Num 8 ∷ text "        " ∷ []) ∷ [];
      lists =
          ((Rec (customer_key 2), []) ∷ [])
          ∷ ([])
          ∷ ((System, []) ∷ [])
          ∷ [];
      next = 1 ∷ 1 ∷ 1 ∷ [];
      usage = ((1, Update) ∷ (2, Update) ∷ []) ∷ ((1, Update) ∷ (2, Update) ∷ []) ∷ [];
      units =
          unit 1 (Some (customer_key 2)) (Some (customer_key 2) ∷ None ∷ None ∷ [])
          (owner_itself (customer_key 2) ∷ None ∷ None ∷ [])
          (Some (customer_key 2) ∷ None ∷ []) (Some Update ∷ Some Update ∷ []) ([])
          ∷ unit 2 None (Some (customer_key 1) ∷ None ∷ None ∷ [])
          (owner_itself (customer_key 1) ∷ None ∷ None ∷ [])
          (Some (customer_key 1) ∷ None ∷ []) (Some Update ∷ Some Update ∷ []) ([])
          ∷ [];
    }
unfolding effect image_of
found_out_at_use = refl
