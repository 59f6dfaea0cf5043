-- Which statements a schema has: numbers in range, each value of its item's picture, and nothing that a script could not say.
use Rattle.std.specs.Prelude.{◌≡◌, refl, true, false, [], ◌∷◌, Some, None, pos, negsuc}
use Rattle.std.specs.List.{list_all, list_any}
use Rattle.dbtg_cells.specs.declared.key.Value.TheVariants.{Num, Text}
use Rattle.dbtg_cells.specs.declared.usage.Mode.TheVariants.{Update}
use Rattle.dbtg_unit.specs.declared.statement.Erase.TheVariants.{Plain, All}
use Rattle.dbtg_unit.specs.declared.statement.Form.TheVariants.{Key, CurrentOfUnit, CurrentOfType, CurrentOfSet, CurrentOfArea, InSet, InArea, OwnerOf, Calc, NextDuplicate, Sorted}
use Rattle.dbtg_unit.specs.declared.statement.Statement.TheVariants.{OpenArea, CloseArea, Find, Get, Store, Insert, Remove, Modify, Delete, Keep, Free}
use Rattle.dbtg_unit.specs.declared.statement.Which.TheVariants.{First, Nth}
use Rattle.dbtg_unit.specs.Database.Statements.Fits.{fits}
use Rattle.dbtg_unit.proofs.Rows.Defined.Schemas.{shop, main, side, customers, orders, items, has, lines, watch}
use Rattle.dbtg_unit.proofs.Rows.Words.{find, store, modify, item_key, again, text}

-- areas 0 and 1, record types 0 to 2, sets 0 to 2
numbers_in_range : list_all (fits shop) (
    OpenArea side Update ∷ CloseArea side ∷ Get None ∷ Get (Some items) ∷ Insert watch ∷ Remove watch ∷ Delete Plain ∷ Delete All ∷ Keep ∷ Free true ∷ Free false
    ∷ find CurrentOfUnit ∷ find (CurrentOfType items) ∷ find (CurrentOfSet watch) ∷ find (CurrentOfArea side) ∷ [])
    ≡ true
numbers_in_range = refl

numbers_out_of_range : list_any (fits shop) (
    OpenArea 2 Update ∷ CloseArea 2 ∷ Get (Some 3) ∷ Insert 3 ∷ Remove 3 ∷ find (CurrentOfType 3) ∷ find (CurrentOfSet 3) ∷ find (CurrentOfArea 2)
    ∷ find (InSet First None 3) ∷ find (InArea First None 2) ∷ find (OwnerOf 3) ∷ find (Calc 3 []) ∷ find (NextDuplicate 3) ∷ find (Sorted 3 (Num 1))
    ∷ store 3 [] ∷ modify 3 0 (Num 1) ∷ [])
    ≡ false
numbers_out_of_range = refl

-- a key's number is from 1 to 999999, its generation from 1 to 255
keys : list_all (fits shop) (
    find (Key (item_key 1)) ∷ find (Key (item_key 999999)) ∷ find (Key (again (item_key 1) 255)) ∷ []) ≡ true
keys = refl

no_keys : list_any (fits shop) (
    find (Key (item_key 0)) ∷ find (Key (item_key 1000000)) ∷ find (Key (again (item_key 1) 0)) ∷ find (Key (again (item_key 1) 256))
    ∷ find (Key (record (item_key 1) { rtype = 3 })) ∷ []) ≡ false
no_keys = refl

-- n is from 1 to 999999, or from -1 to -999999
counts : list_all (fits shop) (
    find (InSet (Nth (pos 1)) None lines) ∷ find (InSet (Nth (pos 999999)) None lines) ∷ find (InSet (Nth (negsuc 0)) None lines)
    ∷ find (InArea (Nth (negsuc 999998)) None main) ∷ []) ≡ true
counts = refl

no_counts : list_any (fits shop) (
    find (InSet (Nth (pos 0)) None lines) ∷ find (InSet (Nth (pos 1000000)) None lines) ∷ find (InArea (Nth (negsuc 999999)) None main) ∷ []) ≡ false
no_counts = refl

-- a record name is of a member type of the set, or of a type of the area
record_names : list_all (fits shop) (find (InSet First (Some items) lines) ∷ find (InArea First (Some items) side) ∷ find (InArea First (Some orders) main) ∷ []) ≡ true
record_names = refl

no_record_names : list_any (fits shop) (find (InSet First (Some orders) lines) ∷ find (InArea First (Some items) main) ∷ find (InSet First (Some 3) lines) ∷ []) ≡ false
no_record_names = refl

-- an owner where the set has one; a value for each CALC item of a type that has some; a key of a sorted set
values_to_find : list_all (fits shop) (
    find (OwnerOf lines) ∷ find (Calc customers (Num 9999 ∷ [])) ∷ find (Calc items (text "A   " ∷ [])) ∷ find (NextDuplicate items) ∷ find (Sorted lines (Num 999)) ∷ []) ≡ true
values_to_find = refl

no_values_to_find : list_any (fits shop) (
    find (OwnerOf watch) ∷ find (Calc customers (Num 10000 ∷ [])) ∷ find (Calc customers (text "7   " ∷ [])) ∷ find (Calc customers []) ∷ find (Calc customers (Num 7 ∷ Num 7 ∷ []))
    ∷ find (Calc orders (Num 1 ∷ [])) ∷ find (NextDuplicate orders) ∷ find (Sorted lines (Num 1000)) ∷ find (Sorted lines (text "1   ")) ∷ find (Sorted has (Num 1)) ∷ []) ≡ false
no_values_to_find = refl

-- a value for each item; a text of its full length, of printable ASCII without the double quote
records : list_all (fits shop) (
    store items (text "A   " ∷ Num 999 ∷ []) ∷ store items (Text (32 ∷ 33 ∷ 35 ∷ 126 ∷ []) ∷ Num 0 ∷ []) ∷ []) ≡ true
records = refl

no_records : list_any (fits shop) (
    store items (text "A   " ∷ []) ∷ store items (text "A   " ∷ Num 1 ∷ Num 1 ∷ []) ∷ store items (text "A   " ∷ Num 1000 ∷ []) ∷ store items (Num 1 ∷ Num 1 ∷ [])
    ∷ store items (text "A  " ∷ Num 1 ∷ []) ∷ store items (text "A    " ∷ Num 1 ∷ []) ∷ store items (Text (34 ∷ 32 ∷ 32 ∷ 32 ∷ []) ∷ Num 1 ∷ [])
    ∷ store items (Text (31 ∷ 32 ∷ 32 ∷ 32 ∷ []) ∷ Num 1 ∷ []) ∷ store items (Text (127 ∷ 32 ∷ 32 ∷ 32 ∷ []) ∷ Num 1 ∷ []) ∷ []) ≡ false
no_records = refl

-- changes of items, none named twice; also none at all
changes : list_all (fits shop) (
    modify items 1 (Num 5) ∷ Modify items (record { item = 1; value = Num 5 } ∷ record { item = 0; value = text "A   " } ∷ []) ∷ Modify items [] ∷ []) ≡ true
changes = refl

no_changes : list_any (fits shop) (
    modify items 2 (Num 5) ∷ modify items 1 (Num 1000) ∷ modify items 1 (text "5   ") ∷ Modify items (record { item = 1; value = Num 5 } ∷ record { item = 1; value = Num 5 } ∷ []) ∷ []) ≡ false
no_changes = refl

-- SUPPRESS names sets of the schema alone
suppressed : list_all (fits shop) (
    Find (record { types = true; areas = true; sets = 7 }) CurrentOfUnit ∷ Store orders (Num 1 ∷ []) (record { types = true; areas = false; sets = 4 }) ∷ []) ≡ true
suppressed = refl

not_suppressed : list_any (fits shop) (
    Find (record { types = false; areas = false; sets = 8 }) CurrentOfUnit ∷ Store orders (Num 1 ∷ []) (record { types = true; areas = false; sets = 8 }) ∷ []) ≡ false
not_suppressed = refl
