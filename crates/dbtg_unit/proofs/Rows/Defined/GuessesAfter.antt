-- The owners of the current of run-unit, as a unit has last seen them, after each statement.
-- What is expected was worked out by hand: FIND and STORE note the owner in every set, INSERT and REMOVE the one in their set; nothing else notes any.
use Rattle.std.specs.Prelude.{◌≡◌, refl, true, List, [], ◌∷◌, Option, Some, None, slice_get, unwrap_or}
use Rattle.dbtg_cells.specs.declared.key.Owner.{Owner}
use Rattle.dbtg_cells.specs.declared.key.Owner.TheVariants.{System, Rec}
use Rattle.dbtg_cells.specs.declared.key.Value.TheVariants.{Num}
use Rattle.dbtg_cells.specs.declared.usage.Mode.TheVariants.{Update}
use Rattle.dbtg_unit.specs.declared.statement.Erase.TheVariants.{Plain}
use Rattle.dbtg_unit.specs.declared.statement.Form.TheVariants.{Key, OwnerOf}
use Rattle.dbtg_unit.specs.declared.statement.Statement.{Statement}
use Rattle.dbtg_unit.specs.declared.statement.Statement.TheVariants.{OpenArea, Find, Get, Insert, Remove, Delete, Keep}
use Rattle.dbtg_unit.specs.Database.Statements.Effect.{effect}
use Rattle.dbtg_unit.specs.Hands.Guesses.{guesses_after, with_owners}
use Rattle.dbtg_unit.specs.Database.Laws.Replay.{State, opening_state, state_after}
use Rattle.dbtg_unit.specs.Database.State.Units.{opening_unit}
use Rattle.dbtg_unit.proofs.Rows.Defined.Schemas.{shop, main, side, customers, orders, items, lines, watch}
use Rattle.dbtg_unit.proofs.Rows.Words.{by, find, modify, store, customer_key, item_key, ordr_key, text}

-- an item in two sets is current of run-unit; a second item in one
abbrev pub items_in_sets : State
items_in_sets =
    state_after shop 10 (opening_state shop 1) (by 1 (
    OpenArea main Update ∷ OpenArea side Update ∷ store customers (Num 7 ∷ text "ADA     " ∷ []) ∷ store orders (Num 1 ∷ [])
    ∷ store items (text "A   " ∷ Num 1 ∷ []) ∷ store items (text "B   " ∷ Num 2 ∷ []) ∷ Insert watch ∷ []))

-- what no statement would have noted
abbrev pub before : List (Option Owner)
before = Some System ∷ Some System ∷ None ∷ []

abbrev pub guesses_in : State → Statement → List (Option Owner)
guesses_in state statement =
    guesses_after shop 10 statement before (effect shop 10 state.database (unwrap_or (slice_get state.units 0) (opening_unit shop 1)) statement)

abbrev pub guesses : Statement → List (Option Owner)
guesses = guesses_in items_in_sets

after_find : guesses (find (Key (item_key 1))) ≡ None ∷ Some (Rec (ordr_key 1)) ∷ None ∷ []
unfolding effect
after_find = refl

after_suppressed_find : guesses (Find (record { types = true; areas = true; sets = 7 }) (Key (item_key 2))) ≡ None ∷ Some (Rec (ordr_key 1)) ∷ Some System ∷ []
unfolding effect
after_suppressed_find = refl

after_find_owner : guesses (find (OwnerOf lines)) ≡ Some (Rec (customer_key 1)) ∷ None ∷ None ∷ []
unfolding effect
after_find_owner = refl

after_find_in_vain : guesses (find (Key (item_key 3))) ≡ before
unfolding effect
after_find_in_vain = refl

after_store : guesses (store items (text "C   " ∷ Num 1 ∷ [])) ≡ None ∷ Some (Rec (ordr_key 1)) ∷ None ∷ []
unfolding effect
after_store = refl

after_remove : guesses (Remove lines) ≡ Some System ∷ None ∷ None ∷ []
unfolding effect
after_remove = refl

after_insert_in_vain : guesses (Insert watch) ≡ before
unfolding effect
after_insert_in_vain = refl

after_insert : guesses_in (state_after shop 10 items_in_sets (by 1 (find (Key (item_key 1)) ∷ []))) (Insert watch) ≡ Some System ∷ Some System ∷ Some System ∷ []
unfolding effect
after_insert = refl

after_modify : guesses (modify items 1 (Num 9)) ≡ before
unfolding effect
after_modify = refl

after_get : guesses (Get None) ≡ before
unfolding effect
after_get = refl

after_keep : guesses Keep ≡ before
unfolding effect
after_keep = refl

after_delete : guesses (Delete Plain) ≡ before
unfolding effect
after_delete = refl

-- a turn back notes the owners that are named, and leaves the other guesses
after_turn_back : with_owners (Some (Rec (customer_key 1)) ∷ Some (Rec (ordr_key 2)) ∷ None ∷ []) (None ∷ Some (Rec (ordr_key 1)) ∷ Some System ∷ [])
    ≡ Some (Rec (customer_key 1)) ∷ Some (Rec (ordr_key 1)) ∷ Some System ∷ []
after_turn_back = refl
