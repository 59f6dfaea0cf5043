-- Records that a unit keeps, and changes by another unit.
use Rattle.std.specs.Prelude.{◌≡◌, refl, [], ◌∷◌, ◌++◌, Some, None, true, false}
use Rattle.dbtg_cells.specs.declared.key.Value.TheVariants.{Num}
use Rattle.dbtg_cells.specs.declared.usage.Mode.TheVariants.{Update}
use Rattle.dbtg_unit.specs.declared.statement.Form.TheVariants.{Key}
use Rattle.dbtg_unit.specs.declared.statement.Statement.TheVariants.{OpenArea, Get, Keep, Free}
use Rattle.dbtg_unit.specs.declared.unit.Cause.TheVariants.{ChangedByAnother, NotKept}
use Rattle.dbtg_unit.specs.Database.Statements.Effect.{effect}
use Rattle.dbtg_unit.specs.Database.State.Image.{image_of}
use Rattle.dbtg_unit.proofs.Rows.Defined.Schemas.{card, main, customers}
use Rattle.dbtg_unit.proofs.Rows.Words.{find, store, modify, by, customer_key, done, found, got, no, run, unit, text}

-- a kept record that another unit changed meanwhile
pub kept_then_changed : run card 100 2 (by 1 (
    OpenArea main Update ∷ store customers (Num 7 ∷ text "        " ∷ []) ∷ Keep ∷ [])
    ++ by 2 (
    OpenArea main Update ∷ find (Key (customer_key 1)) ∷ modify customers 1 (text "EVE     ") ∷ []))
    ≡ record {
      answers =
          done ∷ found (customer_key 1) ∷ done ∷ done ∷ found (customer_key 1) ∷ done ∷ [];
      records =
          (customer_key 1, Num 7 ∷ text "EVE     " ∷ []) ∷ [];
      lists =
          [];
      next = 2 ∷ [];
      usage = ((1, Update) ∷ (2, Update) ∷ []) ∷ [];
      units =
          unit 1 (Some (customer_key 1)) (Some (customer_key 1) ∷ [])
          ([])
          (Some (customer_key 1) ∷ []) (Some Update ∷ []) ((customer_key 1, 1) ∷ [])
          ∷ unit 2 (Some (customer_key 1)) (Some (customer_key 1) ∷ [])
          ([])
          (Some (customer_key 1) ∷ []) (Some Update ∷ []) ([])
          ∷ [];
    }
unfolding effect image_of
kept_then_changed = refl

-- a change on top of it is refused until the record is kept anew
pub changed_by_another : run card 100 2 (by 1 (
    OpenArea main Update ∷ store customers (Num 7 ∷ text "        " ∷ []) ∷ Keep ∷ [])
    ++ by 2 (
    OpenArea main Update ∷ find (Key (customer_key 1)) ∷ modify customers 1 (text "EVE     ") ∷ [])
    ++ by 1 (
    modify customers 1 (text "BOB     ") ∷ Get None ∷ Keep ∷ modify customers 1 (text "BOB     ")
    ∷ modify customers 0 (Num 8) ∷ Free false ∷ Free false ∷ Free true ∷ []))
    ≡ record {
      answers =
          done ∷ found (customer_key 1) ∷ done ∷ done ∷ found (customer_key 1) ∷ done ∷ no ChangedByAnother
          ∷ got (customer_key 1) (Num 7 ∷ text "EVE     " ∷ []) ∷ done ∷ done ∷ done ∷ done ∷ no NotKept ∷ done ∷ [];
      records =
          (customer_key 1, Num 8 ∷ text "BOB     " ∷ []) ∷ [];
      lists =
          [];
      next = 2 ∷ [];
      usage = ((1, Update) ∷ (2, Update) ∷ []) ∷ [];
      units =
          unit 1 (Some (customer_key 1)) (Some (customer_key 1) ∷ [])
          ([])
          (Some (customer_key 1) ∷ []) (Some Update ∷ []) ([])
          ∷ unit 2 (Some (customer_key 1)) (Some (customer_key 1) ∷ [])
          ([])
          (Some (customer_key 1) ∷ []) (Some Update ∷ []) ([])
          ∷ [];
    }
unfolding effect image_of
changed_by_another = refl
