-- Where several causes apply, the first in their order is the answer; every cause.
-- What is expected was worked out by hand, from the rule that stands above each.
use Rattle.std.specs.Prelude.{◌≡◌, refl, ℕ, List, [], ◌∷◌, ◌++◌, Some, None, true, false, pos}
use Rattle.dbtg_cells.specs.declared.key.Value.TheVariants.{Num}
use Rattle.dbtg_cells.specs.declared.usage.Mode.TheVariants.{Retrieval, Update, ExclusiveUpdate}
use Rattle.dbtg_unit.specs.declared.statement.Erase.TheVariants.{Plain, Only, All}
use Rattle.dbtg_unit.specs.declared.statement.Form.TheVariants.{Key, CurrentOfUnit, CurrentOfType, CurrentOfSet, CurrentOfArea, OwnerOf, Calc, NextDuplicate, Sorted}
use Rattle.dbtg_unit.specs.declared.statement.Statement.TheVariants.{OpenArea, CloseArea, Find, Get, Insert, Remove, Delete, Keep, Free}
use Rattle.dbtg_unit.specs.declared.statement.Statement.{Statement}
use Rattle.dbtg_unit.specs.declared.statement.Which.TheVariants.{First, Last, Next, Prior, Nth}
use Rattle.dbtg_unit.specs.declared.unit.Cause.TheVariants.{AlreadyMember, AreaAlreadyOpen, AreaNotOpen, Deleted, DuplicatesNotAllowed, End, Mandatory, MandatoryAutomatic, NoCurrentOfRunUnit, NoRoom, NoSuchCurrent, NoneSatisfies, NotKept, OtherRecordType, PositionLost, UpdateModeNeeded}
use Rattle.dbtg_unit.specs.Database.Statements.Effect.{effect}
use Rattle.dbtg_unit.specs.Database.State.Image.{image_of}
use Rattle.dbtg_unit.proofs.Rows.Defined.Schemas.{shop, main, side, customers, orders, items, has, lines, watch}
use Rattle.dbtg_unit.proofs.Rows.Words.{find, find_in_set, find_in_area, store, modify, by, customer_key, ordr_key, item_key, owner_itself, member, member_of_system, done, found, no, run, unit, text, key, again}
use Rattle.dbtg_unit.proofs.Rows.Defined.OwnSchemas.{room, desks, tags, by_hue, shows, desk}

-- no current of run-unit comes first; no such current before area not open; area already open before usage conflict; area not open
-- before update mode needed and before a key above the capacity
abbrev pub nothing_is_open : List (ℕ × Statement)
nothing_is_open =
    by 1 (
    Get None ∷ Get (Some customers) ∷ Insert has ∷ Remove has ∷ modify items 1 (Num 1) ∷ Delete Plain ∷ Keep
    ∷ Free false ∷ Free true ∷ find CurrentOfUnit ∷ find (CurrentOfType items) ∷ find (CurrentOfSet lines)
    ∷ find (CurrentOfSet watch) ∷ find (CurrentOfArea side) ∷ find_in_set First lines
    ∷ find (Sorted lines (Num 1)) ∷ find (OwnerOf lines) ∷ find (NextDuplicate items) ∷ find_in_area Next side
    ∷ find_in_area Prior side ∷ store orders (Num 1 ∷ []) ∷ find_in_set First watch ∷ find_in_area First side
    ∷ find_in_area Last side ∷ find_in_area (Nth (pos 1)) side ∷ store customers (Num 1 ∷ text "        " ∷ [])
    ∷ find (Key (customer_key 101)) ∷ find (Calc items (text "A   " ∷ [])) ∷ CloseArea main
    ∷ OpenArea main Retrieval ∷ OpenArea main ExclusiveUpdate ∷ store customers (Num 1 ∷ text "        " ∷ [])
    ∷ find (Key (customer_key 101)) ∷ find (Key (customer_key 1)) ∷ find (Calc customers (Num 1 ∷ []))
    ∷ find_in_area First main ∷ find_in_set First watch ∷ OpenArea side Retrieval ∷ find_in_set First watch
    ∷ find_in_set Next watch ∷ find_in_set Prior watch ∷ [])

nothing_is_open_answers : (run shop 100 1 nothing_is_open).answers
    ≡ no NoCurrentOfRunUnit ∷ no NoCurrentOfRunUnit ∷ no NoCurrentOfRunUnit ∷ no NoCurrentOfRunUnit
    ∷ no NoCurrentOfRunUnit ∷ no NoCurrentOfRunUnit ∷ no NoCurrentOfRunUnit ∷ no NoCurrentOfRunUnit ∷ done
    ∷ no NoCurrentOfRunUnit ∷ no NoSuchCurrent ∷ no NoSuchCurrent ∷ no NoSuchCurrent ∷ no NoSuchCurrent
    ∷ no NoSuchCurrent ∷ no NoSuchCurrent ∷ no NoSuchCurrent ∷ no NoSuchCurrent ∷ no NoSuchCurrent
    ∷ no NoSuchCurrent ∷ no NoSuchCurrent ∷ no AreaNotOpen ∷ no AreaNotOpen ∷ no AreaNotOpen ∷ no AreaNotOpen
    ∷ no AreaNotOpen ∷ no AreaNotOpen ∷ no AreaNotOpen ∷ no AreaNotOpen ∷ done ∷ no AreaAlreadyOpen
    ∷ no UpdateModeNeeded ∷ no NoneSatisfies ∷ no NoneSatisfies ∷ no NoneSatisfies ∷ no End ∷ no AreaNotOpen
    ∷ done ∷ no End ∷ no End ∷ no End ∷ []
unfolding effect image_of
nothing_is_open_answers = refl

-- mandatory automatic, mandatory and other record type come before no such current, and before area not open; this before update mode needed
abbrev pub what_the_unit_alone_decides : List (ℕ × Statement)
what_the_unit_alone_decides =
    by 1 (
    OpenArea main Update ∷ OpenArea side Update ∷ store customers (Num 1 ∷ text "        " ∷ [])
    ∷ store orders (Num 1 ∷ []) ∷ store items (text "    " ∷ Num 1 ∷ []) ∷ [])
    ++ by 2 (
    OpenArea main Update ∷ Find (record { types = true; areas = true; sets = 7 }) (Key (ordr_key 1)) ∷ Insert has
    ∷ Remove has ∷ Insert lines ∷ Remove watch ∷ Get (Some items) ∷ modify customers 0 (Num 1)
    ∷ store items (text "    " ∷ Num 2 ∷ []) ∷ find_in_set First lines ∷ Delete Plain ∷ OpenArea side Retrieval
    ∷ Delete Plain ∷ find CurrentOfUnit ∷ store items (text "    " ∷ Num 2 ∷ []) ∷ find_in_set First lines
    ∷ Insert watch ∷ Remove lines ∷ Remove watch ∷ modify items 0 (text "X   ") ∷ Keep ∷ CloseArea side ∷ Get None
    ∷ Get (Some orders) ∷ Keep ∷ Free false ∷ Free false ∷ [])

what_the_unit_alone_decides_answers : (run shop 100 2 what_the_unit_alone_decides).answers
    ≡ done ∷ done ∷ found (customer_key 1) ∷ found (ordr_key 1) ∷ found (item_key 1) ∷ done ∷ found (ordr_key 1)
    ∷ no MandatoryAutomatic ∷ no Mandatory ∷ no OtherRecordType ∷ no OtherRecordType ∷ no OtherRecordType
    ∷ no OtherRecordType ∷ no NoSuchCurrent ∷ no NoSuchCurrent ∷ no AreaNotOpen ∷ done ∷ no UpdateModeNeeded
    ∷ found (ordr_key 1) ∷ no UpdateModeNeeded ∷ found (item_key 1) ∷ no UpdateModeNeeded ∷ no UpdateModeNeeded
    ∷ no UpdateModeNeeded ∷ no UpdateModeNeeded ∷ done ∷ done ∷ no AreaNotOpen ∷ no OtherRecordType
    ∷ no AreaNotOpen ∷ done ∷ no NotKept ∷ []
unfolding effect image_of
what_the_unit_alone_decides_answers = refl

-- each use of a current that another unit has deleted; a record with its number again is another record
abbrev pub what_is_deleted : List (ℕ × Statement)
what_is_deleted =
    by 1 (
    OpenArea main Update ∷ OpenArea side Update ∷ store customers (Num 1 ∷ text "        " ∷ [])
    ∷ store orders (Num 1 ∷ []) ∷ store items (text "    " ∷ Num 1 ∷ []) ∷ Insert watch ∷ [])
    ++ by 2 (
    OpenArea main Update ∷ OpenArea side Update ∷ find (Key (ordr_key 1)) ∷ find (Key (item_key 1)) ∷ [])
    ++ by 1 (
    find (Key (ordr_key 1)) ∷ Delete All ∷ [])
    ++ by 2 (
    Get None ∷ Keep ∷ Insert lines ∷ Remove lines ∷ modify items 1 (Num 2) ∷ Delete Plain ∷ find CurrentOfUnit
    ∷ find (CurrentOfType items) ∷ find (CurrentOfSet lines) ∷ find (CurrentOfSet has) ∷ find (CurrentOfArea side)
    ∷ find (OwnerOf lines) ∷ find_in_set First lines ∷ find_in_set Next lines ∷ find (Sorted lines (Num 1))
    ∷ find (NextDuplicate items) ∷ store items (text "    " ∷ Num 3 ∷ []) ∷ find_in_set First watch
    ∷ find_in_set Next watch ∷ find_in_area Next side ∷ [])
    ++ by 1 (
    store orders (Num 2 ∷ []) ∷ [])
    ++ by 2 (
    find_in_set First lines ∷ find (CurrentOfType orders) ∷ find (Key (ordr_key 1))
    ∷ find (Key (again (ordr_key 1) 2)) ∷ find_in_set First lines ∷ find (OwnerOf has) ∷ [])

what_is_deleted_answers : (run shop 100 2 what_is_deleted).answers
    ≡ done ∷ done ∷ found (customer_key 1) ∷ found (ordr_key 1) ∷ found (item_key 1) ∷ done ∷ done ∷ done
    ∷ found (ordr_key 1) ∷ found (item_key 1) ∷ found (ordr_key 1) ∷ done ∷ no Deleted ∷ no Deleted ∷ no Deleted
    ∷ no Deleted ∷ no Deleted ∷ no Deleted ∷ no Deleted ∷ no Deleted ∷ no Deleted ∷ no Deleted ∷ no Deleted
    ∷ no Deleted ∷ no Deleted ∷ no Deleted ∷ no Deleted ∷ no Deleted ∷ no Deleted ∷ no End ∷ no PositionLost
    ∷ no End ∷ found (again (ordr_key 1) 2) ∷ no Deleted ∷ no Deleted ∷ no NoneSatisfies
    ∷ found (again (ordr_key 1) 2) ∷ no End ∷ found (customer_key 1) ∷ []
unfolding effect image_of
what_is_deleted_answers = refl

what_is_deleted_units : (run shop 100 2 what_is_deleted).units
    ≡ unit 1 (Some (again (ordr_key 1) 2)) (Some (customer_key 1) ∷ Some (again (ordr_key 1) 2) ∷ Some (item_key 1) ∷ [])
    (member (customer_key 1) (again (ordr_key 1) 2) ∷ owner_itself (again (ordr_key 1) 2) ∷ member_of_system (item_key 1) ∷ [])
    (Some (again (ordr_key 1) 2) ∷ Some (item_key 1) ∷ []) (Some Update ∷ Some Update ∷ []) ([])
    ∷ unit 2 (Some (customer_key 1)) (Some (customer_key 1) ∷ Some (again (ordr_key 1) 2) ∷ Some (item_key 1) ∷ [])
    (owner_itself (customer_key 1) ∷ owner_itself (again (ordr_key 1) 2) ∷ member_of_system (item_key 1) ∷ [])
    (Some (customer_key 1) ∷ Some (item_key 1) ∷ []) (Some Update ∷ Some Update ∷ []) ([])
    ∷ []
unfolding effect image_of
what_is_deleted_units = refl

-- already a member comes before the deleted owner of the current occurrence
abbrev pub already_member_before_deleted_owner : List (ℕ × Statement)
already_member_before_deleted_owner =
    by 1 (
    OpenArea main Update ∷ OpenArea side Update ∷ store customers (Num 1 ∷ text "        " ∷ [])
    ∷ store orders (Num 1 ∷ []) ∷ store items (text "    " ∷ Num 1 ∷ []) ∷ store orders (Num 2 ∷ []) ∷ [])
    ++ by 2 (
    OpenArea main Update ∷ OpenArea side Update ∷ find (Key (ordr_key 2))
    ∷ Find (record { types = false; areas = false; sets = 2 }) (Key (item_key 1)) ∷ [])
    ++ by 1 (
    Delete Plain ∷ [])
    ++ by 2 (
    Insert lines ∷ Remove lines ∷ Insert lines ∷ [])

already_member_before_deleted_owner_answers : (run shop 10 2 already_member_before_deleted_owner).answers
    ≡ done ∷ done ∷ found (customer_key 1) ∷ found (ordr_key 1) ∷ found (item_key 1) ∷ found (ordr_key 2) ∷ done
    ∷ done ∷ found (ordr_key 2) ∷ found (item_key 1) ∷ done ∷ no AlreadyMember ∷ done ∷ no Deleted ∷ []
unfolding effect image_of
already_member_before_deleted_owner_answers = refl

-- the deleted owner comes before the position that is lost with its list
abbrev pub deleted_owner_before_lost_position : List (ℕ × Statement)
deleted_owner_before_lost_position =
    by 1 (
    OpenArea room Update ∷ store desks (Num 1 ∷ []) ∷ store tags (Num 1 ∷ Num 1 ∷ []) ∷ [])
    ++ by 2 (
    OpenArea room Update ∷ find (Key (key tags 1)) ∷ [])
    ++ by 1 (
    find (OwnerOf shows) ∷ Delete Only ∷ [])
    ++ by 2 (
    store tags (Num 2 ∷ Num 2 ∷ []) ∷ Insert shows ∷ find_in_set Next shows ∷ find_in_set Prior shows ∷ [])

deleted_owner_before_lost_position_answers : (run desk 10 2 deleted_owner_before_lost_position).answers
    ≡ done ∷ found (key desks 1) ∷ found (key tags 1) ∷ done ∷ found (key tags 1) ∷ found (key desks 1) ∷ done
    ∷ no Deleted ∷ no Deleted ∷ no Deleted ∷ no Deleted ∷ []
unfolding effect image_of
deleted_owner_before_lost_position_answers = refl

-- no room, then the CALC items, then set by set: owner deleted, position lost, sort key. For an INSERT: already member, then the place
abbrev pub what_the_cells_decide : List (ℕ × Statement)
what_the_cells_decide =
    by 1 (
    OpenArea room Update ∷ store desks (Num 1 ∷ []) ∷ store tags (Num 1 ∷ Num 1 ∷ []) ∷ find (OwnerOf shows)
    ∷ Delete Only ∷ store tags (Num 1 ∷ Num 2 ∷ []) ∷ store tags (Num 2 ∷ Num 1 ∷ [])
    ∷ store tags (Num 2 ∷ Num 2 ∷ []) ∷ store desks (Num 2 ∷ []) ∷ store tags (Num 2 ∷ Num 2 ∷ []) ∷ Remove shows
    ∷ store tags (Num 3 ∷ Num 3 ∷ []) ∷ store tags (Num 2 ∷ Num 3 ∷ []) ∷ Insert shows
    ∷ find (Key (again (key desks 1) 2)) ∷ store tags (Num 3 ∷ Num 3 ∷ []) ∷ store tags (Num 1 ∷ Num 1 ∷ [])
    ∷ Insert shows ∷ find (OwnerOf shows) ∷ Delete Only ∷ find (Key (key tags 3)) ∷ Insert shows ∷ Insert by_hue
    ∷ Remove by_hue ∷ modify tags 1 (Num 2) ∷ Insert by_hue ∷ modify tags 0 (Num 2) ∷ [])

what_the_cells_decide_answers : (run desk 3 1 what_the_cells_decide).answers
    ≡ done ∷ found (key desks 1) ∷ found (key tags 1) ∷ found (key desks 1) ∷ done ∷ no DuplicatesNotAllowed
    ∷ no DuplicatesNotAllowed ∷ no Deleted ∷ found (again (key desks 1) 2) ∷ found (key tags 2) ∷ done
    ∷ no PositionLost ∷ no DuplicatesNotAllowed ∷ no PositionLost ∷ found (again (key desks 1) 2)
    ∷ found (key tags 3) ∷ no NoRoom ∷ no AlreadyMember ∷ found (again (key desks 1) 2) ∷ done
    ∷ found (key tags 3) ∷ no Deleted ∷ no AlreadyMember ∷ done ∷ done ∷ no DuplicatesNotAllowed
    ∷ no DuplicatesNotAllowed ∷ []
unfolding effect image_of
what_the_cells_decide_answers = refl
