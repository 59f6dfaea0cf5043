-- What each cell shows of a database.
-- What is expected was worked out by hand: a usage list as it is; for an extent every number with its last generation and, if it is live,
-- its CALC values; for a ring its owner's key and the members with their sort keys; for a slot the record with its owner in each set.
use Rattle.std.specs.Prelude.{◌≡◌, refl, ℕ, List, [], ◌∷◌, Some, None}
use Rattle.dbtg_cells.specs.Shown.{UsageValue, ExtentValue, RingValue, SlotValue}
use Rattle.dbtg_cells.specs.declared.key.Owner.TheVariants.{System, Rec}
use Rattle.dbtg_cells.specs.declared.key.Value.TheVariants.{Num}
use Rattle.dbtg_cells.specs.declared.name.CellName.TheVariants.{Usage, Extent, Ring, Slot}
use Rattle.dbtg_cells.specs.declared.usage.Mode.TheVariants.{Update, Retrieval}
use Rattle.dbtg_unit.specs.declared.statement.Erase.TheVariants.{Plain}
use Rattle.dbtg_unit.specs.declared.statement.Statement.{Statement}
use Rattle.dbtg_unit.specs.declared.statement.Statement.TheVariants.{OpenArea, Delete, Insert}
use Rattle.dbtg_unit.specs.Database.State.Base.{Database}
use Rattle.dbtg_unit.specs.Database.State.Cells.{cell}
use Rattle.dbtg_unit.specs.Database.Statements.Effect.{effect}
use Rattle.dbtg_unit.specs.Database.Laws.Replay.{opening_state, state_after}
use Rattle.dbtg_unit.proofs.Rows.Defined.Schemas.{shop, main, side, customers, orders, items, has, lines, watch}
use Rattle.dbtg_unit.proofs.Rows.Words.{by, store, customer_key, ordr_key, item_key, again, text}

-- a customer with an order; an item of the second generation, in two sets; capacity 2
abbrev pub before : List (ℕ × Statement)
before =
    (2, OpenArea side Retrieval)
    ∷ by 1 (
    OpenArea main Update ∷ OpenArea side Update ∷ store customers (Num 7 ∷ text "ADA     " ∷ []) ∷ store orders (Num 1 ∷ [])
    ∷ store items (text "A   " ∷ Num 5 ∷ []) ∷ Delete Plain ∷ store items (text "B   " ∷ Num 6 ∷ []) ∷ Insert watch ∷ [])

abbrev pub database : Database
database = (state_after shop 2 (opening_state shop 2) before).database

usage : cell shop 2 database (Usage side) ≡ UsageValue ((2, Retrieval) ∷ (1, Update) ∷ [])
unfolding effect cell
usage = refl

-- the CALC values of a live number; a number that was never used
extent : cell shop 2 database (Extent customers)
    ≡ ExtentValue (record { last = 1; calc = Some (Num 7 ∷ []) } ∷ record { last = 0; calc = None } ∷ [])
unfolding effect cell
extent = refl

-- a type without CALC items; the second generation
extent_without_calc : cell shop 2 database (Extent orders)
    ≡ ExtentValue (record { last = 1; calc = Some [] } ∷ record { last = 0; calc = None } ∷ [])
unfolding effect cell
extent_without_calc = refl

extent_of_second_generation : cell shop 2 database (Extent items)
    ≡ ExtentValue (record { last = 2; calc = Some (text "B   " ∷ []) } ∷ record { last = 0; calc = None } ∷ [])
unfolding effect cell
extent_of_second_generation = refl

ring : cell shop 2 database (Ring has (Some (customers, 1)))
    ≡ RingValue (Some (record { owner = Rec (customer_key 1); members = (ordr_key 1, None) ∷ [] }))
unfolding effect cell
ring = refl

ring_of_sorted_set : cell shop 2 database (Ring lines (Some (orders, 1)))
    ≡ RingValue (Some (record { owner = Rec (ordr_key 1); members = (again (item_key 1) 2, Some (Num 6)) ∷ [] }))
unfolding effect cell
ring_of_sorted_set = refl

ring_of_system : cell shop 2 database (Ring watch None)
    ≡ RingValue (Some (record { owner = System; members = (again (item_key 1) 2, None) ∷ [] }))
unfolding effect cell
ring_of_system = refl

no_ring : cell shop 2 database (Ring lines (Some (orders, 2))) ≡ RingValue None
unfolding effect cell
no_ring = refl

-- stored with version 1, inserted once
slot : cell shop 2 database (Slot items 1)
    ≡ SlotValue (Some (record {
      generation = 2;
      version = 2;
      items = text "B   " ∷ Num 6 ∷ [];
      owners = None ∷ Some (Rec (ordr_key 1)) ∷ Some System ∷ [];
    }))
unfolding effect cell
slot = refl

slot_of_owner : cell shop 2 database (Slot orders 1)
    ≡ SlotValue (Some (record { generation = 1; version = 1; items = Num 1 ∷ []; owners = Some (Rec (customer_key 1)) ∷ None ∷ None ∷ [] }))
unfolding effect cell
slot_of_owner = refl

vacant : cell shop 2 database (Slot items 2) ≡ SlotValue None
unfolding effect cell
vacant = refl
