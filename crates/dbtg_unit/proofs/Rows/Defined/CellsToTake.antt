-- What each statement takes: its areas, ascending, then its cells in their order.
-- What is expected was worked out by hand: for a FIND the rings or extents that it looks through and the slot of what it finds; for a STORE
-- its extent, the rings of the current owners and of the new one, and the new slot; for an INSERT, REMOVE or MODIFY the rings and the slot.
use Rattle.std.specs.Prelude.{codes, ◌≡◌, refl, ℕ, false, List, [], ◌∷◌, Option, Some, None, slice_get, unwrap_or}
use Rattle.dbtg_cells.specs.declared.cell.Cell.{Cell}
use Rattle.dbtg_cells.specs.declared.key.Owner.{Owner}
use Rattle.dbtg_cells.specs.declared.key.Owner.TheVariants.{Rec}
use Rattle.dbtg_cells.specs.declared.key.Value.TheVariants.{Num}
use Rattle.dbtg_cells.specs.declared.name.CellName.{CellName}
use Rattle.dbtg_cells.specs.declared.name.CellName.TheVariants.{Usage, Extent, Ring, Slot}
use Rattle.dbtg_cells.specs.declared.usage.Mode.TheVariants.{Update}
use Rattle.dbtg_unit.specs.declared.held.Need.{Need}
use Rattle.dbtg_unit.specs.declared.held.Need.TheVariants.{Area, Take, Stale, Ready}
use Rattle.dbtg_unit.specs.declared.statement.Erase.TheVariants.{Plain, Only, Selective, All}
use Rattle.dbtg_unit.specs.declared.statement.Form.TheVariants.{Key, CurrentOfUnit, CurrentOfType, CurrentOfSet, CurrentOfArea, InSet, InArea, OwnerOf, Calc, NextDuplicate, Sorted}
use Rattle.dbtg_unit.specs.declared.statement.Statement.{Statement}
use Rattle.dbtg_unit.specs.declared.statement.Statement.TheVariants.{OpenArea, CloseArea, Get, Insert, Remove, Modify, Delete, Keep, Free}
use Rattle.dbtg_unit.specs.declared.statement.Which.TheVariants.{First, Last, Next}
use Rattle.dbtg_unit.specs.declared.unit.Unit.{Unit}
use Rattle.dbtg_unit.specs.Database.Statements.Effect.{effect}
use Rattle.dbtg_unit.specs.Hands.Needs.{areas_in_order, cells_of, need, stale_owners}
use Rattle.dbtg_unit.specs.Database.Laws.Replay.{State, opening_state, state_after}
use Rattle.dbtg_unit.specs.Database.State.Units.{opening_unit}
use Rattle.dbtg_unit.proofs.Rows.Defined.Schemas.{shop, main, side, customers, orders, items, has, lines, watch}
use Rattle.dbtg_schema.specs.Lists.{Lists}
use Rattle.dbtg_schema.specs.declared.shape.Picture.TheVariants.{Number}
use Rattle.dbtg_unit.proofs.Rows.Defined.OwnSchemas.{mixed, bins, reds, blues, content, tree, wood, roots, branches, leaves, sheds, bears}
use Rattle.dbtg_unit.proofs.Rows.Words.{find, find_in_set, find_in_area, store, modify, by, ordr_key, item_key, key, text}

abbrev pub ring : ℕ → ℕ → ℕ → CellName
ring s t n = Ring s (Some (t, n))

-- a customer; two orders, the second without lines; an item that two sets have. The second order is current
abbrev pub order_current : List Statement
order_current =
    OpenArea main Update ∷ OpenArea side Update ∷ store customers (Num 7 ∷ text "ADA     " ∷ []) ∷ store orders (Num 1 ∷ [])
    ∷ store items (text "A   " ∷ Num 5 ∷ []) ∷ Insert watch ∷ store orders (Num 2 ∷ []) ∷ []

abbrev pub at_order : State
at_order = state_after shop 10 (opening_state shop 1) (by 1 order_current)

abbrev pub at_item : State
at_item = state_after shop 10 at_order (by 1 (find (Key (item_key 1)) ∷ []))

abbrev pub at_first_order : State
at_first_order = state_after shop 10 at_order (by 1 (find (Key (ordr_key 1)) ∷ []))

abbrev pub unit_one : State → Unit
unit_one state = unwrap_or (slice_get state.units 0) (opening_unit shop 1)

-- the areas and the cells of a statement, with these guesses
abbrev pub takes : State → List (Option Owner) → Statement → List ℕ × List CellName
takes state guesses statement =
    (areas_in_order shop (unit_one state) statement, cells_of shop 10 state.database (unit_one state) guesses statement)

abbrev pub no_guess : List (Option Owner)
no_guess = None ∷ None ∷ None ∷ []

abbrev pub first_order : List (Option Owner)
first_order = None ∷ Some (Rec (ordr_key 1)) ∷ None ∷ []

abbrev pub second_order : List (Option Owner)
second_order = None ∷ Some (Rec (ordr_key 2)) ∷ None ∷ []

close : takes at_order no_guess (CloseArea side) ≡ (side ∷ [], Usage side ∷ [])
unfolding effect
close = refl

get : takes at_order no_guess (Get None) ≡ (main ∷ [], Slot orders 2 ∷ [])
unfolding effect
get = refl

find_key : takes at_order no_guess (find (Key (item_key 9))) ≡ (side ∷ [], Slot items 9 ∷ [])
unfolding effect
find_key = refl

find_current : takes at_order no_guess (find CurrentOfUnit) ≡ (main ∷ [], Slot orders 2 ∷ [])
unfolding effect
find_current = refl

find_current_of_type : takes at_order no_guess (find (CurrentOfType items)) ≡ (side ∷ [], Slot items 1 ∷ [])
unfolding effect
find_current_of_type = refl

-- the slot of the owner, or of the member, that the position names
find_current_of_set : takes at_order no_guess (find (CurrentOfSet lines)) ≡ (main ∷ [], Slot orders 2 ∷ [])
unfolding effect
find_current_of_set = refl

find_current_of_system_set : takes at_order no_guess (find (CurrentOfSet watch)) ≡ (side ∷ [], Slot items 1 ∷ [])
unfolding effect
find_current_of_system_set = refl

find_current_of_set_at_member : takes at_item no_guess (find (CurrentOfSet lines)) ≡ (side ∷ [], Slot items 1 ∷ [])
unfolding effect
find_current_of_set_at_member = refl

find_current_of_area : takes at_order no_guess (find (CurrentOfArea side)) ≡ (side ∷ [], Slot items 1 ∷ [])
unfolding effect
find_current_of_area = refl

-- what the ring refuses takes no slot
find_in_empty : takes at_order no_guess (find_in_set First lines) ≡ (main ∷ side ∷ [], ring lines orders 2 ∷ [])
unfolding effect
find_in_empty = refl

find_member : takes at_order no_guess (find (InSet Last (Some orders) has)) ≡ (main ∷ [], ring has customers 1 ∷ Slot orders 2 ∷ [])
unfolding effect
find_member = refl

find_in_system_set : takes at_order no_guess (find_in_set First watch) ≡ (side ∷ [], Ring watch None ∷ Slot items 1 ∷ [])
unfolding effect
find_in_system_set = refl

find_sorted : takes at_item no_guess (find (Sorted lines (Num 5))) ≡ (main ∷ side ∷ [], ring lines orders 1 ∷ Slot items 1 ∷ [])
unfolding effect
find_sorted = refl

find_sorted_in_vain : takes at_item no_guess (find (Sorted lines (Num 6))) ≡ (main ∷ side ∷ [], ring lines orders 1 ∷ [])
unfolding effect
find_sorted_in_vain = refl

find_owner : takes at_order no_guess (find (OwnerOf has)) ≡ (main ∷ [], Slot customers 1 ∷ [])
unfolding effect
find_owner = refl

find_first_of_area : takes at_order no_guess (find_in_area First main) ≡ (main ∷ [], Extent customers ∷ Extent orders ∷ Slot customers 1 ∷ [])
unfolding effect
find_first_of_area = refl

find_next_of_area : takes at_order no_guess (find (InArea Next (Some orders) main)) ≡ (main ∷ [], Extent orders ∷ [])
unfolding effect
find_next_of_area = refl

find_calc : takes at_order no_guess (find (Calc items (text "A   " ∷ []))) ≡ (side ∷ [], Extent items ∷ Slot items 1 ∷ [])
unfolding effect
find_calc = refl

find_next_duplicate : takes at_order no_guess (find (NextDuplicate items)) ≡ (side ∷ [], Extent items ∷ [])
unfolding effect
find_next_duplicate = refl

-- the ring of the current owner, by set; the new record owns an empty ring
store_member : takes at_order no_guess (store items (text "B   " ∷ Num 5 ∷ [])) ≡ (main ∷ side ∷ [], Extent items ∷ ring lines orders 2 ∷ Slot items 2 ∷ [])
unfolding effect
store_member = refl

store_owner_and_member : takes at_order no_guess (store orders (Num 3 ∷ [])) ≡ (main ∷ [], Extent orders ∷ ring has customers 1 ∷ ring lines orders 3 ∷ Slot orders 3 ∷ [])
unfolding effect
store_owner_and_member = refl

-- what the extent refuses takes no more
store_refused : takes at_order no_guess (store customers (Num 7 ∷ text "BOB     " ∷ [])) ≡ (main ∷ [], Extent customers ∷ [])
unfolding effect
store_refused = refl

insert : takes at_item no_guess (Insert lines) ≡ (main ∷ side ∷ [], ring lines orders 1 ∷ Slot items 1 ∷ [])
unfolding effect
insert = refl

-- the ring of the guess, where there is one
remove : takes at_item first_order (Remove lines) ≡ (main ∷ side ∷ [], ring lines orders 1 ∷ Slot items 1 ∷ [])
unfolding effect
remove = refl

remove_without_guess : takes at_item no_guess (Remove lines) ≡ (main ∷ side ∷ [], Slot items 1 ∷ [])
unfolding effect
remove_without_guess = refl

modify_sort_key : takes at_item first_order (modify items 1 (Num 5)) ≡ (main ∷ side ∷ [], ring lines orders 1 ∷ Slot items 1 ∷ [])
unfolding effect
modify_sort_key = refl

modify_calc_item : takes at_item first_order (modify items 0 (text "A   ")) ≡ (side ∷ [], Extent items ∷ Slot items 1 ∷ [])
unfolding effect
modify_calc_item = refl

modify_both : takes at_item first_order (Modify items (record { item = 1; value = Num 6 } ∷ record { item = 0; value = text "B   " } ∷ []))
    ≡ (main ∷ side ∷ [], Extent items ∷ ring lines orders 1 ∷ Slot items 1 ∷ [])
unfolding effect
modify_both = refl

keep : takes at_item first_order Keep ≡ (side ∷ [], Slot items 1 ∷ [])
unfolding effect
keep = refl

free : takes at_item first_order (Free false) ≡ ([], [])
unfolding effect
free = refl

-- DELETE: the slot and its own rings. The plain form stops at the first ring that has a member
delete_with_member : takes at_first_order no_guess (Delete Plain) ≡ (main ∷ side ∷ [], Slot orders 1 ∷ ring lines orders 1 ∷ [])
unfolding effect
delete_with_member = refl

delete_without_member : takes at_order no_guess (Delete Plain) ≡ (main ∷ side ∷ [], Slot orders 2 ∷ ring lines orders 2 ∷ Extent orders ∷ ring has customers 1 ∷ [])
unfolding effect
delete_without_member = refl

-- then the slots of the members, whether they go or not; last the extents of the types that go, and the rings that they stand in
delete_only : takes at_first_order no_guess (Delete Only)
    ≡ (main ∷ side ∷ [], Slot orders 1 ∷ ring lines orders 1 ∷ Slot items 1 ∷ Extent orders ∷ ring has customers 1 ∷ [])
unfolding effect
delete_only = refl

delete_selective : takes at_first_order no_guess (Delete Selective)
    ≡ (main ∷ side ∷ [], Slot orders 1 ∷ ring lines orders 1 ∷ Slot items 1 ∷ Extent orders ∷ ring has customers 1 ∷ [])
unfolding effect
delete_selective = refl

delete_all : takes at_first_order no_guess (Delete All)
    ≡ (main ∷ side ∷ [], Slot orders 1 ∷ ring lines orders 1 ∷ Slot items 1 ∷ Extent orders ∷ Extent items ∷ ring has customers 1 ∷ Ring watch None ∷ [])
unfolding effect
delete_all = refl

-- first in, first out: the root, its two branches and its leaf, then the leaves of the first branch, then those of the second
abbrev pub a_tree : State
a_tree =
    state_after tree 4 (opening_state tree 1) (by 1 (
    OpenArea wood Update ∷ store roots (Num 1 ∷ []) ∷ store branches (Num 1 ∷ []) ∷ store leaves (Num 1 ∷ []) ∷ Remove bears ∷ Insert sheds
    ∷ store branches (Num 2 ∷ []) ∷ store leaves (Num 2 ∷ []) ∷ find (Key (key branches 1)) ∷ store leaves (Num 3 ∷ []) ∷ find (Key (key roots 1)) ∷ []))

delete_in_turn : cells_of tree 4 a_tree.database (unit_one a_tree) (None ∷ None ∷ None ∷ None ∷ []) (Delete All)
    ≡ Slot roots 1 ∷ ring 0 roots 1 ∷ ring 2 roots 1 ∷ Slot branches 1 ∷ Slot branches 2 ∷ Slot leaves 1
    ∷ ring 1 branches 1 ∷ ring 3 branches 1 ∷ Slot leaves 3 ∷ ring 1 branches 2 ∷ ring 3 branches 2 ∷ Slot leaves 2
    ∷ Extent roots ∷ Extent branches ∷ Extent leaves ∷ []
unfolding effect
delete_in_turn = refl

-- WHAT IS NEEDED NEXT

-- where these areas and cells are held, with these guesses, and the item is current of run-unit
abbrev pub needed : List ℕ → List (CellName × Cell) → List (Option Owner) → Statement → Need
needed areas cells guesses = need shop 10 at_item.database (unit_one at_item) (record { areas = areas; cells = cells; guesses = guesses })

-- first the areas
first_area : needed [] [] first_order (Remove lines) ≡ Area main
unfolding effect need
first_area = refl

second_area : needed (main ∷ []) [] first_order (Remove lines) ≡ Area side
unfolding effect need
second_area = refl

-- then the cells
first_cell : needed (main ∷ side ∷ []) [] first_order (Remove lines)
    ≡ Take (ring lines orders 1)
unfolding effect need
first_cell = refl

second_cell : (c : Cell) → needed (main ∷ side ∷ []) ((ring lines orders 1, c) ∷ []) first_order (Remove lines)
    ≡ Take (Slot items 1)
unfolding effect need
second_cell c = refl

all_is_there : (c d : Cell) → needed (main ∷ side ∷ []) ((ring lines orders 1, c) ∷ (Slot items 1, d) ∷ []) first_order (Remove lines)
    ≡ Ready
unfolding effect need
all_is_there c d = refl

-- the slot names another owner than the guess: of the needed set alone
wrong_guess : (c d : Cell) → needed (main ∷ side ∷ []) ((ring lines orders 2, c) ∷ (Slot items 1, d) ∷ []) second_order (Remove lines)
    ≡ Stale
unfolding effect need
wrong_guess c d = refl

missing_guess : (d : Cell) → needed (main ∷ side ∷ []) ((Slot items 1, d) ∷ []) no_guess (modify items 1 (Num 6))
    ≡ Stale
unfolding effect need
missing_guess d = refl

-- what it notes then: the true owner in the needed set, and none elsewhere
noted_owner : stale_owners shop 10 at_item.database (unit_one at_item) second_order (Remove lines)
    ≡ None ∷ Some (Rec (ordr_key 1)) ∷ None ∷ []
unfolding effect
noted_owner = refl

noted_for_none : stale_owners shop 10 at_item.database (unit_one at_item) no_guess (modify items 1 (Num 6))
    ≡ None ∷ Some (Rec (ordr_key 1)) ∷ None ∷ []
unfolding effect
noted_for_none = refl

-- a guess is not asked where no sort key is named
unneeded_guess : (c d : Cell) → needed (side ∷ []) ((Extent items, c) ∷ (Slot items 1, d) ∷ []) no_guess (modify items 0 (text "B   "))
    ≡ Ready
unfolding effect need
unneeded_guess c d = refl

-- what a check without cells refuses needs nothing
refused_at_once : needed [] [] no_guess (Insert has) ≡ Ready
unfolding effect need
refused_at_once = refl

-- and so does a key above the capacity
above_capacity : needed [] [] no_guess (find (Key (item_key 11))) ≡ Ready
unfolding effect need
above_capacity = refl

-- MEMBERS IN TWO AREAS

-- bins and reds in one area, blues in another; a bin with a red and a blue
abbrev pub two_yards : Lists
two_yards =
    record mixed {
      areas = record { name = codes "YARD" } ∷ record { name = codes "SHED" } ∷ [];
      types =
          record { name = codes "BIN"; area = 0; items = record { name = codes "BNO"; picture = Number 2 } ∷ []; calc = None }
          ∷ record { name = codes "RED"; area = 0; items = record { name = codes "RNO"; picture = Number 2 } ∷ []; calc = None }
          ∷ record { name = codes "BLUE"; area = 1; items = record { name = codes "BLNO"; picture = Number 2 } ∷ []; calc = None }
          ∷ [];
    }

abbrev pub a_bin : State
a_bin =
    state_after two_yards 4 (opening_state two_yards 1) (by 1 (
    OpenArea 0 Update ∷ OpenArea 1 Update ∷ store bins (Num 1 ∷ []) ∷ store reds (Num 1 ∷ []) ∷ store blues (Num 1 ∷ []) ∷ []))

-- of all member types, or of the named one
all_members : areas_in_order two_yards (unit_one a_bin) (find_in_set First content) ≡ 0 ∷ 1 ∷ []
unfolding effect
all_members = refl

named_members : areas_in_order two_yards (unit_one a_bin) (find (InSet First (Some reds) content)) ≡ 0 ∷ []
unfolding effect
named_members = refl

-- a DELETE needs the areas of all that can be reached
delete_reaches : areas_in_order two_yards (unit_one (state_after two_yards 4 a_bin (by 1 (find (Key (key bins 1)) ∷ [])))) (Delete Plain) ≡ 0 ∷ 1 ∷ []
unfolding effect
delete_reaches = refl

-- and of the home of a set in which the record is a member
delete_needs_home : areas_in_order two_yards (unit_one a_bin) (Delete Plain) ≡ 0 ∷ 1 ∷ []
unfolding effect
delete_needs_home = refl
