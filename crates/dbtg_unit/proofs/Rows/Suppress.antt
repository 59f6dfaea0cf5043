-- What SUPPRESS leaves as it was.
-- What is expected was worked out by hand, from the rule that stands above each.
use Rattle.std.specs.Prelude.{◌≡◌, refl, ℕ, List, drop, [], ◌∷◌, ◌++◌, Some, true, false}
use Rattle.dbtg_cells.specs.declared.key.Owner.TheVariants.{System, Rec}
use Rattle.dbtg_cells.specs.declared.key.Value.TheVariants.{Num}
use Rattle.dbtg_cells.specs.declared.usage.Mode.TheVariants.{Update}
use Rattle.dbtg_unit.specs.declared.statement.Form.TheVariants.{Key, OwnerOf}
use Rattle.dbtg_unit.specs.declared.statement.Statement.TheVariants.{OpenArea, Find, Store, Insert}
use Rattle.dbtg_unit.specs.declared.statement.Statement.{Statement}
use Rattle.dbtg_unit.specs.Database.Statements.Effect.{effect}
use Rattle.dbtg_unit.specs.Database.State.Image.{image_of}
use Rattle.dbtg_unit.proofs.Rows.Defined.Schemas.{shop, main, side, customers, orders, items, lines, watch}
use Rattle.dbtg_unit.proofs.Rows.Words.{find, store, by, customer_key, ordr_key, item_key, owner_itself, member, member_of_system, done, found, run, unit, text}

-- two items in two sets; an INSERT makes the member current of its set alone
abbrev pub two_watched_items : List (ℕ × Statement)
two_watched_items =
    by 1 (
    OpenArea main Update ∷ OpenArea side Update ∷ store customers (Num 7 ∷ text "        " ∷ [])
    ∷ store orders (Num 1 ∷ []) ∷ store items (text "    " ∷ Num 1 ∷ []) ∷ Insert watch
    ∷ store items (text "    " ∷ Num 2 ∷ []) ∷ Insert watch ∷ [])

two_watched_items_answers : (run shop 10 1 two_watched_items).answers
    ≡ done ∷ done ∷ found (customer_key 1) ∷ found (ordr_key 1) ∷ found (item_key 1) ∷ done ∷ found (item_key 2)
    ∷ done ∷ []
unfolding effect image_of
two_watched_items_answers = refl

two_watched_items_units : (run shop 10 1 two_watched_items).units
    ≡ unit 1 (Some (item_key 2)) (Some (customer_key 1) ∷ Some (ordr_key 1) ∷ Some (item_key 2) ∷ [])
    (member (customer_key 1) (ordr_key 1) ∷ member (ordr_key 1) (item_key 2) ∷ member_of_system (item_key 2) ∷ [])
    (Some (ordr_key 1) ∷ Some (item_key 2) ∷ []) (Some Update ∷ Some Update ∷ []) ([])
    ∷ []
unfolding effect image_of
two_watched_items_units = refl

-- without SUPPRESS all kinds change
abbrev pub suppress_nothing : List (ℕ × Statement)
suppress_nothing =
    two_watched_items ++ by 1 (
    find (Key (item_key 1)) ∷ [])

suppress_nothing_answers : drop 8 (run shop 10 1 suppress_nothing).answers
    ≡ found (item_key 1) ∷ []
unfolding effect image_of
suppress_nothing_answers = refl

suppress_nothing_units : (run shop 10 1 suppress_nothing).units
    ≡ unit 1 (Some (item_key 1)) (Some (customer_key 1) ∷ Some (ordr_key 1) ∷ Some (item_key 1) ∷ [])
    (member (customer_key 1) (ordr_key 1) ∷ member (ordr_key 1) (item_key 1) ∷ member_of_system (item_key 1) ∷ [])
    (Some (ordr_key 1) ∷ Some (item_key 1) ∷ []) (Some Update ∷ Some Update ∷ []) ([])
    ∷ []
unfolding effect image_of
suppress_nothing_units = refl

-- RECORD: the current of the record type stays
abbrev pub suppress_record : List (ℕ × Statement)
suppress_record =
    two_watched_items ++ by 1 (
    Find (record { types = true; areas = false; sets = 0 }) (Key (item_key 1)) ∷ [])

suppress_record_answers : drop 8 (run shop 10 1 suppress_record).answers
    ≡ found (item_key 1) ∷ []
unfolding effect image_of
suppress_record_answers = refl

suppress_record_units : (run shop 10 1 suppress_record).units
    ≡ unit 1 (Some (item_key 1)) (Some (customer_key 1) ∷ Some (ordr_key 1) ∷ Some (item_key 2) ∷ [])
    (member (customer_key 1) (ordr_key 1) ∷ member (ordr_key 1) (item_key 1) ∷ member_of_system (item_key 1) ∷ [])
    (Some (ordr_key 1) ∷ Some (item_key 1) ∷ []) (Some Update ∷ Some Update ∷ []) ([])
    ∷ []
unfolding effect image_of
suppress_record_units = refl

-- AREA: the current of the area stays
abbrev pub suppress_area : List (ℕ × Statement)
suppress_area =
    two_watched_items ++ by 1 (
    Find (record { types = false; areas = true; sets = 0 }) (Key (item_key 1)) ∷ [])

suppress_area_answers : drop 8 (run shop 10 1 suppress_area).answers
    ≡ found (item_key 1) ∷ []
unfolding effect image_of
suppress_area_answers = refl

suppress_area_units : (run shop 10 1 suppress_area).units
    ≡ unit 1 (Some (item_key 1)) (Some (customer_key 1) ∷ Some (ordr_key 1) ∷ Some (item_key 1) ∷ [])
    (member (customer_key 1) (ordr_key 1) ∷ member (ordr_key 1) (item_key 1) ∷ member_of_system (item_key 1) ∷ [])
    (Some (ordr_key 1) ∷ Some (item_key 2) ∷ []) (Some Update ∷ Some Update ∷ []) ([])
    ∷ []
unfolding effect image_of
suppress_area_units = refl

-- one set: its current stays
abbrev pub suppress_one_set : List (ℕ × Statement)
suppress_one_set =
    two_watched_items ++ by 1 (
    Find (record { types = false; areas = false; sets = 2 }) (Key (item_key 1)) ∷ [])

suppress_one_set_answers : drop 8 (run shop 10 1 suppress_one_set).answers
    ≡ found (item_key 1) ∷ []
unfolding effect image_of
suppress_one_set_answers = refl

suppress_one_set_units : (run shop 10 1 suppress_one_set).units
    ≡ unit 1 (Some (item_key 1)) (Some (customer_key 1) ∷ Some (ordr_key 1) ∷ Some (item_key 1) ∷ [])
    (member (customer_key 1) (ordr_key 1) ∷ member (ordr_key 1) (item_key 2) ∷ member_of_system (item_key 1) ∷ [])
    (Some (ordr_key 1) ∷ Some (item_key 1) ∷ []) (Some Update ∷ Some Update ∷ []) ([])
    ∷ []
unfolding effect image_of
suppress_one_set_units = refl

-- several kinds
abbrev pub suppress_several : List (ℕ × Statement)
suppress_several =
    two_watched_items ++ by 1 (
    Find (record { types = false; areas = true; sets = 6 }) (Key (item_key 1)) ∷ [])

suppress_several_answers : drop 8 (run shop 10 1 suppress_several).answers
    ≡ found (item_key 1) ∷ []
unfolding effect image_of
suppress_several_answers = refl

suppress_several_units : (run shop 10 1 suppress_several).units
    ≡ unit 1 (Some (item_key 1)) (Some (customer_key 1) ∷ Some (ordr_key 1) ∷ Some (item_key 1) ∷ [])
    (member (customer_key 1) (ordr_key 1) ∷ member (ordr_key 1) (item_key 2) ∷ member_of_system (item_key 2) ∷ [])
    (Some (ordr_key 1) ∷ Some (item_key 2) ∷ []) (Some Update ∷ Some Update ∷ []) ([])
    ∷ []
unfolding effect image_of
suppress_several_units = refl

-- ALL: only the current of run-unit changes
abbrev pub suppress_all : List (ℕ × Statement)
suppress_all =
    two_watched_items ++ by 1 (
    Find (record { types = true; areas = true; sets = 7 }) (Key (item_key 1)) ∷ [])

suppress_all_answers : drop 8 (run shop 10 1 suppress_all).answers
    ≡ found (item_key 1) ∷ []
unfolding effect image_of
suppress_all_answers = refl

suppress_all_units : (run shop 10 1 suppress_all).units
    ≡ unit 1 (Some (item_key 1)) (Some (customer_key 1) ∷ Some (ordr_key 1) ∷ Some (item_key 2) ∷ [])
    (member (customer_key 1) (ordr_key 1) ∷ member (ordr_key 1) (item_key 2) ∷ member_of_system (item_key 2) ∷ [])
    (Some (ordr_key 1) ∷ Some (item_key 2) ∷ []) (Some Update ∷ Some Update ∷ []) ([])
    ∷ []
unfolding effect image_of
suppress_all_units = refl

-- an owner becomes the current of its set, standing at itself
abbrev pub owner_found : List (ℕ × Statement)
owner_found =
    two_watched_items ++ by 1 (
    find (OwnerOf lines) ∷ [])

owner_found_answers : drop 8 (run shop 10 1 owner_found).answers
    ≡ found (ordr_key 1) ∷ []
unfolding effect image_of
owner_found_answers = refl

owner_found_units : (run shop 10 1 owner_found).units
    ≡ unit 1 (Some (ordr_key 1)) (Some (customer_key 1) ∷ Some (ordr_key 1) ∷ Some (item_key 2) ∷ [])
    (member (customer_key 1) (ordr_key 1) ∷ owner_itself (ordr_key 1) ∷ member_of_system (item_key 2) ∷ [])
    (Some (ordr_key 1) ∷ Some (item_key 2) ∷ []) (Some Update ∷ Some Update ∷ []) ([])
    ∷ []
unfolding effect image_of
owner_found_units = refl

-- but not where the set is suppressed
abbrev pub owner_found_suppressed : List (ℕ × Statement)
owner_found_suppressed =
    two_watched_items ++ by 1 (
    Find (record { types = false; areas = false; sets = 2 }) (OwnerOf lines) ∷ [])

owner_found_suppressed_answers : drop 8 (run shop 10 1 owner_found_suppressed).answers
    ≡ found (ordr_key 1) ∷ []
unfolding effect image_of
owner_found_suppressed_answers = refl

owner_found_suppressed_units : (run shop 10 1 owner_found_suppressed).units
    ≡ unit 1 (Some (ordr_key 1)) (Some (customer_key 1) ∷ Some (ordr_key 1) ∷ Some (item_key 2) ∷ [])
    (member (customer_key 1) (ordr_key 1) ∷ member (ordr_key 1) (item_key 2) ∷ member_of_system (item_key 2) ∷ [])
    (Some (ordr_key 1) ∷ Some (item_key 2) ∷ []) (Some Update ∷ Some Update ∷ []) ([])
    ∷ []
unfolding effect image_of
owner_found_suppressed_units = refl

-- the same for a STORE: the next order still goes to the customer who is current of the set
abbrev pub store_suppressed : List (ℕ × Statement)
store_suppressed =
    two_watched_items ++ by 1 (
    Store customers (Num 8 ∷ text "        " ∷ []) (record { types = false; areas = false; sets = 1 })
    ∷ store orders (Num 2 ∷ []) ∷ [])

store_suppressed_answers : drop 8 (run shop 10 1 store_suppressed).answers
    ≡ found (customer_key 2) ∷ found (ordr_key 2) ∷ []
unfolding effect image_of
store_suppressed_answers = refl

store_suppressed_lists : (run shop 10 1 store_suppressed).lists
    ≡ ((Rec (customer_key 1), ordr_key 1 ∷ ordr_key 2 ∷ []) ∷ (Rec (customer_key 2), []) ∷ [])
    ∷ ((Rec (ordr_key 1), item_key 1 ∷ item_key 2 ∷ []) ∷ (Rec (ordr_key 2), []) ∷ [])
    ∷ ((System, item_key 1 ∷ item_key 2 ∷ []) ∷ [])
    ∷ []
unfolding effect image_of
store_suppressed_lists = refl

store_suppressed_units : (run shop 10 1 store_suppressed).units
    ≡ unit 1 (Some (ordr_key 2)) (Some (customer_key 2) ∷ Some (ordr_key 2) ∷ Some (item_key 2) ∷ [])
    (member (customer_key 1) (ordr_key 2) ∷ owner_itself (ordr_key 2) ∷ member_of_system (item_key 2) ∷ [])
    (Some (ordr_key 2) ∷ Some (item_key 2) ∷ []) (Some Update ∷ Some Update ∷ []) ([])
    ∷ []
unfolding effect image_of
store_suppressed_units = refl

-- the record is stored and connected all the same
abbrev pub store_all_suppressed : List (ℕ × Statement)
store_all_suppressed =
    two_watched_items ++ by 1 (
    Store items (text "    " ∷ Num 0 ∷ []) (record { types = true; areas = true; sets = 7 }) ∷ [])

store_all_suppressed_answers : drop 8 (run shop 10 1 store_all_suppressed).answers
    ≡ found (item_key 3) ∷ []
unfolding effect image_of
store_all_suppressed_answers = refl

store_all_suppressed_lists : (run shop 10 1 store_all_suppressed).lists
    ≡ ((Rec (customer_key 1), ordr_key 1 ∷ []) ∷ [])
    ∷ ((Rec (ordr_key 1), item_key 3 ∷ item_key 1 ∷ item_key 2 ∷ []) ∷ [])
    ∷ ((System, item_key 1 ∷ item_key 2 ∷ []) ∷ [])
    ∷ []
unfolding effect image_of
store_all_suppressed_lists = refl

store_all_suppressed_units : (run shop 10 1 store_all_suppressed).units
    ≡ unit 1 (Some (item_key 3)) (Some (customer_key 1) ∷ Some (ordr_key 1) ∷ Some (item_key 2) ∷ [])
    (member (customer_key 1) (ordr_key 1) ∷ member (ordr_key 1) (item_key 2) ∷ member_of_system (item_key 2) ∷ [])
    (Some (ordr_key 1) ∷ Some (item_key 2) ∷ []) (Some Update ∷ Some Update ∷ []) ([])
    ∷ []
unfolding effect image_of
store_all_suppressed_units = refl
