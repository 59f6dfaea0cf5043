-- What is in the way of statements, cause by cause.
-- What is expected was worked out by hand, from what the profile says of each cause.
use Rattle.std.specs.Prelude.{◌≡◌, refl, ℕ, List, [], ◌∷◌, ◌++◌, Some, None, false}
use Rattle.dbtg_cells.specs.declared.key.Owner.TheVariants.{System, Rec}
use Rattle.dbtg_cells.specs.declared.key.Value.TheVariants.{Num}
use Rattle.dbtg_cells.specs.declared.usage.Mode.TheVariants.{Retrieval, Update, ExclusiveUpdate}
use Rattle.dbtg_unit.specs.declared.statement.Erase.TheVariants.{Plain, Only}
use Rattle.dbtg_unit.specs.declared.statement.Form.TheVariants.{Key, Calc, NextDuplicate, Sorted}
use Rattle.dbtg_unit.specs.declared.statement.Statement.{Statement}
use Rattle.dbtg_unit.specs.declared.statement.Statement.TheVariants.{OpenArea, CloseArea, Get, Insert, Remove, Delete, Keep, Free}
use Rattle.dbtg_unit.specs.declared.statement.Which.TheVariants.{First, Next}
use Rattle.dbtg_unit.specs.declared.unit.Cause.TheVariants as cause
use Rattle.dbtg_unit.specs.Database.Statements.Effect.{effect}
use Rattle.dbtg_unit.proofs.Rows.Defined.Schemas.{shop, main, side, customers, orders, items, has, lines, watch}
use Rattle.dbtg_unit.proofs.Rows.Defined.OwnSchemas.{shelf, hall, shelves, books, up_only}
use Rattle.dbtg_unit.proofs.Rows.Words.{find, find_in_set, find_in_area, store, modify, by, customer_key, ordr_key, item_key, key, text}
use Rattle.dbtg_refusal.specs.declared.obstacle.Obstacle.TheVariants as obstacle
use Rattle.dbtg_refusal.proofs.Rows.Words.{refused}

-- STATEMENTS BEFORE

-- a unit has both areas open for update
abbrev both : List Statement
both = OpenArea main Update ∷ OpenArea side Update ∷ []

-- a customer, an order of it, an item of that
abbrev stored : List Statement
stored = both ++ store customers (Num 1 ∷ text "ADA     " ∷ []) ∷ store orders (Num 1 ∷ []) ∷ store items (text "BOLT" ∷ Num 5 ∷ []) ∷ []

-- another unit deletes the customer, with its order and its item
abbrev deleted : List (ℕ × Statement)
deleted = by 1 both ++ by 1 (store customers (Num 1 ∷ text "ADA     " ∷ []) ∷ []) ++ by 2 (both ++ find (Key (customer_key 1)) ∷ Delete Only ∷ [])

-- THE UNIT, AREAS AND CURRENTS

nothing_current : refused shop 100 1 [] 1 (Get None) ≡ Some (cause.NoCurrentOfRunUnit, Some (obstacle.RunUnit 1))
unfolding effect
nothing_current = refl

other_type : refused shop 100 1 (by 1 stored) 1 (Get (Some orders)) ≡ Some (cause.OtherRecordType, Some (obstacle.Record (item_key 1)))
unfolding effect
other_type = refl

mandatory_automatic : refused shop 100 1 (by 1 (stored ++ find (Key (ordr_key 1)) ∷ [])) 1 (Insert has) ≡ Some (cause.MandatoryAutomatic, Some (obstacle.Class orders has))
unfolding effect
mandatory_automatic = refl

mandatory : refused shop 100 1 (by 1 (stored ++ find (Key (ordr_key 1)) ∷ [])) 1 (Remove has) ≡ Some (cause.Mandatory, Some (obstacle.Class orders has))
unfolding effect
mandatory = refl

open_again : refused shop 100 2 (by 2 both) 2 (OpenArea side Retrieval) ≡ Some (cause.AreaAlreadyOpen, Some (obstacle.Opened side 2 Update))
unfolding effect
open_again = refl

no_owner : refused shop 100 1 (by 1 both) 1 (store orders (Num 1 ∷ [])) ≡ Some (cause.NoSuchCurrent, Some (obstacle.Set has))
unfolding effect
no_owner = refl

no_current_of_type : refused shop 100 1 (by 1 both) 1 (find (NextDuplicate items)) ≡ Some (cause.NoSuchCurrent, Some (obstacle.RecordType items))
unfolding effect
no_current_of_type = refl

no_current_in_area : refused shop 100 1 (by 1 both) 1 (find_in_area Next side) ≡ Some (cause.NoSuchCurrent, Some (obstacle.Area side))
unfolding effect
no_current_in_area = refl

-- the item's own area is closed, that of its owner is open
side_is_closed : refused shop 100 1 (by 1 (stored ++ CloseArea side ∷ [])) 1 (store items (text "BOLT" ∷ Num 6 ∷ [])) ≡ Some (cause.AreaNotOpen, Some (obstacle.Area side))
unfolding effect
side_is_closed = refl

-- the first of two closed areas in the schema
main_is_closed : refused shop 100 1 (by 1 (stored ++ CloseArea side ∷ CloseArea main ∷ [])) 1 (store items (text "BOLT" ∷ Num 6 ∷ [])) ≡ Some (cause.AreaNotOpen, Some (obstacle.Area main))
unfolding effect
main_is_closed = refl

for_retrieval : refused shop 100 1 (by 1 (OpenArea main Retrieval ∷ [])) 1 (store customers (Num 1 ∷ text "ADA     " ∷ [])) ≡ Some (cause.UpdateModeNeeded, Some (obstacle.Opened main 1 Retrieval))
unfolding effect
for_retrieval = refl

not_kept : refused shop 100 1 (by 1 stored) 1 (Free false) ≡ Some (cause.NotKept, Some (obstacle.Record (item_key 1)))
unfolding effect
not_kept = refl

-- the first of two units, in the order of opening
in_use : refused shop 100 3 (by 2 (OpenArea main Update ∷ []) ++ by 1 (OpenArea main Update ∷ [])) 3 (OpenArea main ExclusiveUpdate) ≡ Some (cause.UsageConflict, Some (obstacle.Opened main 2 Update))
unfolding effect
in_use = refl

-- WHAT IS FOUND

no_more : refused shop 100 1 (by 1 (stored ++ find (Key (ordr_key 1)) ∷ [])) 1 (find_in_set Next has) ≡ Some (cause.End, Some (obstacle.Occurrence has (Rec (customer_key 1))))
unfolding effect
no_more = refl

nothing_in_area : refused shop 100 1 (by 1 both) 1 (find_in_area First side) ≡ Some (cause.End, Some (obstacle.Area side))
unfolding effect
nothing_in_area = refl

no_such_key : refused shop 100 1 (by 1 stored) 1 (find (Key (customer_key 2))) ≡ Some (cause.NoneSatisfies, Some (obstacle.Record (customer_key 2)))
unfolding effect
no_such_key = refl

no_such_value : refused shop 100 1 (by 1 stored) 1 (find (Calc customers (Num 2 ∷ []))) ≡ Some (cause.NoneSatisfies, Some (obstacle.RecordType customers))
unfolding effect
no_such_value = refl

no_such_sort_key : refused shop 100 1 (by 1 stored) 1 (find (Sorted lines (Num 6))) ≡ Some (cause.NoneSatisfies, Some (obstacle.Occurrence lines (Rec (ordr_key 1))))
unfolding effect
no_such_sort_key = refl

-- WHAT IS STORED

record_deleted : refused shop 100 2 deleted 1 Keep ≡ Some (cause.Deleted, Some (obstacle.Record (customer_key 1)))
unfolding effect
record_deleted = refl

owner_deleted : refused shop 100 2 deleted 1 (store orders (Num 1 ∷ [])) ≡ Some (cause.Deleted, Some (obstacle.Occurrence has (Rec (customer_key 1))))
unfolding effect
owner_deleted = refl

changed_by_another : refused shop 100 2 (by 1 (OpenArea main Update ∷ store customers (Num 1 ∷ text "ADA     " ∷ []) ∷ Keep ∷ []) ++ by 2 (OpenArea main Update ∷ find (Key (customer_key 1)) ∷ modify customers 1 (text "EVE     ") ∷ [])) 1 (modify customers 1 (text "BOB     "))
    ≡ Some (cause.ChangedByAnother, Some (obstacle.Changed (customer_key 1) 1 2))
unfolding effect
changed_by_another = refl

-- the item that was inserted last was removed again, and the set goes by it
position_lost : refused shop 100 1 (by 1 (stored ++ Insert watch ∷ Remove watch ∷ [])) 1 (Insert watch) ≡ Some (cause.PositionLost, Some (obstacle.Member watch System (item_key 1)))
unfolding effect
position_lost = refl

same_calc_items : refused shop 100 1 (by 1 stored) 1 (store customers (Num 1 ∷ text "EVE     " ∷ [])) ≡ Some (cause.DuplicatesNotAllowed, Some (obstacle.Record (customer_key 1)))
unfolding effect
same_calc_items = refl

same_calc_items_again : refused shop 100 1 (by 1 (stored ++ store customers (Num 2 ∷ text "EVE     " ∷ []) ∷ [])) 1 (modify customers 0 (Num 1)) ≡ Some (cause.DuplicatesNotAllowed, Some (obstacle.Record (customer_key 1)))
unfolding effect
same_calc_items_again = refl

no_room : refused shop 1 1 (by 1 stored) 1 (store customers (Num 2 ∷ text "EVE     " ∷ [])) ≡ Some (cause.NoRoom, Some (obstacle.RecordType customers))
unfolding effect
no_room = refl

already_member : refused shop 100 1 (by 1 stored) 1 (Insert lines) ≡ Some (cause.AlreadyMember, Some (obstacle.Member lines (Rec (ordr_key 1)) (item_key 1)))
unfolding effect
already_member = refl

no_member : refused shop 100 1 (by 1 stored) 1 (Remove watch) ≡ Some (cause.NotMember, Some (obstacle.Outside watch (item_key 1)))
unfolding effect
no_member = refl

has_members : refused shop 100 1 (by 1 (stored ++ find (Key (customer_key 1)) ∷ [])) 1 (Delete Plain) ≡ Some (cause.OwnerHasMembers, Some (obstacle.Occurrence has (Rec (customer_key 1))))
unfolding effect
has_members = refl

-- SORT KEYS

-- a shelf with a book of rank 1 in a set in which no two have the same rank, and a book of rank 2 or 1
abbrev ranked : ℕ → List (ℕ × Statement)
ranked rank = by 1 (OpenArea hall Update ∷ store shelves (Num 1 ∷ []) ∷ store books (Num 1 ∷ []) ∷ Insert up_only ∷ store books (Num rank ∷ []) ∷ [])

same_rank : refused shelf 100 1 (ranked 1) 1 (Insert up_only) ≡ Some (cause.DuplicatesNotAllowed, Some (obstacle.Member up_only (Rec (key shelves 1)) (key books 1)))
unfolding effect
same_rank = refl

same_rank_again : refused shelf 100 1 (ranked 2 ++ by 1 (Insert up_only ∷ [])) 1 (modify books 0 (Num 1)) ≡ Some (cause.DuplicatesNotAllowed, Some (obstacle.Member up_only (Rec (key shelves 1)) (key books 1)))
unfolding effect
same_rank_again = refl
