-- A record type without sets: open an area, store, find by value, get.
use Rattle.std.specs.Prelude.{◌≡◌, refl, [], ◌∷◌, Some, None}
use Rattle.dbtg_cells.specs.declared.key.Value.TheVariants.{Num}
use Rattle.dbtg_cells.specs.declared.usage.Mode.TheVariants.{Retrieval, Update}
use Rattle.dbtg_unit.specs.declared.statement.Form.TheVariants.{Key, Calc}
use Rattle.dbtg_unit.specs.declared.statement.Statement.TheVariants.{OpenArea, CloseArea, Get}
use Rattle.dbtg_unit.specs.declared.unit.Cause.TheVariants.{AreaNotOpen, DuplicatesNotAllowed, NoneSatisfies, UpdateModeNeeded}
use Rattle.dbtg_unit.specs.Database.Statements.Effect.{effect}
use Rattle.dbtg_unit.specs.Database.State.Image.{image_of}
use Rattle.dbtg_unit.proofs.Rows.Defined.Schemas.{card, main, customers}
use Rattle.dbtg_unit.proofs.Rows.Words.{find, store, by, customer_key, done, found, got, no, run, unit, text}

-- a record is found by its CALC item, and its items come back
pub open_store_find_get : run card 100 1 (by 1 (
    OpenArea main Update ∷ store customers (Num 7 ∷ text "ADA     " ∷ []) ∷ find (Calc customers (Num 7 ∷ []))
    ∷ Get None ∷ []))
    ≡ record {
      answers =
          done ∷ found (customer_key 1) ∷ found (customer_key 1) ∷ got (customer_key 1) (Num 7 ∷ text "ADA     " ∷ [])
          ∷ [];
      records =
          (customer_key 1, Num 7 ∷ text "ADA     " ∷ []) ∷ [];
      lists =
          [];
      next = 2 ∷ [];
      usage = ((1, Update) ∷ []) ∷ [];
      units =
          unit 1 (Some (customer_key 1)) (Some (customer_key 1) ∷ [])
          ([])
          (Some (customer_key 1) ∷ []) (Some Update ∷ []) ([])
          ∷ [];
    }
unfolding effect image_of
open_store_find_get = refl

-- a second record with the CALC value is refused, and takes no number
pub calc_value_is_unique : run card 100 1 (by 1 (
    OpenArea main Update ∷ store customers (Num 7 ∷ text "ADA     " ∷ []) ∷ find (Calc customers (Num 7 ∷ []))
    ∷ Get None ∷ store customers (Num 7 ∷ text "        " ∷ []) ∷ store customers (Num 8 ∷ text "        " ∷ [])
    ∷ []))
    ≡ record {
      answers =
          done ∷ found (customer_key 1) ∷ found (customer_key 1) ∷ got (customer_key 1) (Num 7 ∷ text "ADA     " ∷ [])
          ∷ no DuplicatesNotAllowed ∷ found (customer_key 2) ∷ [];
      records =
          (customer_key 1, Num 7 ∷ text "ADA     " ∷ []) ∷ (customer_key 2, Num 8 ∷ text "        " ∷ []) ∷ [];
      lists =
          [];
      next = 3 ∷ [];
      usage = ((1, Update) ∷ []) ∷ [];
      units =
          unit 1 (Some (customer_key 2)) (Some (customer_key 2) ∷ [])
          ([])
          (Some (customer_key 2) ∷ []) (Some Update ∷ []) ([])
          ∷ [];
    }
unfolding effect image_of
calc_value_is_unique = refl

-- an area that is open for retrieval alone; a number above the capacity; an area that is closed twice
pub retrieval_mode : run card 100 1 (by 1 (
    OpenArea main Retrieval ∷ store customers (Num 1 ∷ text "        " ∷ []) ∷ find (Key (customer_key 101))
    ∷ CloseArea main ∷ CloseArea main ∷ []))
    ≡ record {
      answers =
          done ∷ no UpdateModeNeeded ∷ no NoneSatisfies ∷ done ∷ no AreaNotOpen ∷ [];
      records =
          [];
      lists =
          [];
      next = 1 ∷ [];
      usage = ([]) ∷ [];
      units =
          unit 1 None (None ∷ [])
          ([])
          (None ∷ []) (None ∷ []) ([])
          ∷ [];
    }
unfolding effect image_of
retrieval_mode = refl
