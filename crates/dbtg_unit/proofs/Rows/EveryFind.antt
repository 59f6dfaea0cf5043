-- What each form of FIND finds, with a record name and without.
-- What is expected was worked out by hand, from the rule that stands above each.
use Rattle.std.specs.Prelude.{◌≡◌, refl, ℕ, List, drop, [], ◌∷◌, ◌++◌, Some, pos, negsuc}
use Rattle.dbtg_cells.specs.declared.key.Owner.TheVariants.{Rec}
use Rattle.dbtg_cells.specs.declared.key.Value.TheVariants.{Num}
use Rattle.dbtg_cells.specs.declared.usage.Mode.TheVariants.{Update}
use Rattle.dbtg_unit.specs.declared.statement.Form.TheVariants.{Key, CurrentOfUnit, CurrentOfType, CurrentOfSet, CurrentOfArea, InSet, InArea, OwnerOf, Calc, NextDuplicate, Sorted}
use Rattle.dbtg_unit.specs.declared.statement.Statement.TheVariants.{OpenArea, Insert, Remove}
use Rattle.dbtg_unit.specs.declared.statement.Statement.{Statement}
use Rattle.dbtg_unit.specs.declared.statement.Which.TheVariants.{First, Last, Next, Prior, Nth}
use Rattle.dbtg_unit.specs.declared.unit.Cause.TheVariants.{DuplicatesNotAllowed, End, NoneSatisfies, PositionLost}
use Rattle.dbtg_unit.specs.Database.Statements.Effect.{effect}
use Rattle.dbtg_unit.specs.Database.State.Image.{image_of}
use Rattle.dbtg_unit.proofs.Rows.Words.{find, find_in_set, find_in_area, store, modify, by, done, found, no, run, text, key}
use Rattle.dbtg_unit.proofs.Rows.Defined.OwnSchemas.{yard, bins, reds, blues, content, mixed, room, desks, notes, by_word, desk}

-- a list of two record types: RED:1 BLUE:1 RED:2 BLUE:2 RED:3
abbrev pub reds_and_blues : List (ℕ × Statement)
reds_and_blues =
    by 1 (
    OpenArea yard Update ∷ store bins (Num 1 ∷ []) ∷ store reds (Num 1 ∷ []) ∷ store blues (Num 1 ∷ [])
    ∷ store reds (Num 2 ∷ []) ∷ store blues (Num 2 ∷ []) ∷ store reds (Num 3 ∷ []) ∷ [])

reds_and_blues_answers : (run mixed 10 1 reds_and_blues).answers
    ≡ done ∷ found (key bins 1) ∷ found (key reds 1) ∷ found (key blues 1) ∷ found (key reds 2)
    ∷ found (key blues 2) ∷ found (key reds 3) ∷ []
unfolding effect image_of
reds_and_blues_answers = refl

reds_and_blues_lists : (run mixed 10 1 reds_and_blues).lists
    ≡ ((Rec (key bins 1), key reds 1 ∷ key blues 1 ∷ key reds 2 ∷ key blues 2 ∷ key reds 3 ∷ []) ∷ [])
    ∷ []
unfolding effect image_of
reds_and_blues_lists = refl

-- with a record name only its members count, but the position is any member; numbers count from 1 and from the end
abbrev pub in_a_set : List (ℕ × Statement)
in_a_set =
    reds_and_blues ++ by 1 (
    find (InSet First (Some blues) content) ∷ find (InSet Last (Some blues) content)
    ∷ find (InSet Next (Some reds) content) ∷ find_in_set Next content ∷ find (InSet Prior (Some reds) content)
    ∷ find (InSet Prior (Some blues) content) ∷ find_in_set Prior content ∷ find_in_set Prior content
    ∷ find (InSet Prior (Some blues) content) ∷ find (InSet (Nth (pos 2)) (Some blues) content)
    ∷ find (InSet (Nth (negsuc 1)) (Some reds) content) ∷ find (InSet (Nth (pos 4)) (Some reds) content)
    ∷ find (InSet (Nth (negsuc 2)) (Some blues) content) ∷ find_in_set (Nth (pos 3)) content
    ∷ find_in_set (Nth (negsuc 0)) content ∷ find_in_set (Nth (negsuc 4)) content
    ∷ find_in_set (Nth (negsuc 5)) content ∷ find_in_set (Nth (pos 5)) content ∷ find_in_set (Nth (pos 6)) content
    ∷ find_in_set First content ∷ find_in_set Last content ∷ [])

in_a_set_answers : drop 7 (run mixed 10 1 in_a_set).answers
    ≡ found (key blues 1) ∷ found (key blues 2) ∷ found (key reds 3) ∷ no End ∷ found (key reds 2)
    ∷ found (key blues 1) ∷ found (key reds 1) ∷ no End ∷ no End ∷ found (key blues 2) ∷ found (key reds 2)
    ∷ no End ∷ no End ∷ found (key reds 2) ∷ found (key reds 3) ∷ found (key reds 1) ∷ no End ∷ found (key reds 3)
    ∷ no End ∷ found (key reds 1) ∷ found (key reds 3) ∷ []
unfolding effect image_of
in_a_set_answers = refl

-- from the owner NEXT is FIRST and PRIOR is LAST; the currents of each kind
abbrev pub from_the_owner : List (ℕ × Statement)
from_the_owner =
    reds_and_blues ++ by 1 (
    find (OwnerOf content) ∷ find (InSet Next (Some blues) content) ∷ find (OwnerOf content)
    ∷ find (InSet Prior (Some blues) content) ∷ find (OwnerOf content) ∷ find_in_set Prior content
    ∷ find (OwnerOf content) ∷ find_in_set Next content ∷ find (CurrentOfSet content) ∷ find (CurrentOfType blues)
    ∷ find (CurrentOfArea yard) ∷ find CurrentOfUnit ∷ [])

from_the_owner_answers : drop 7 (run mixed 10 1 from_the_owner).answers
    ≡ found (key bins 1) ∷ found (key blues 1) ∷ found (key bins 1) ∷ found (key blues 2) ∷ found (key bins 1)
    ∷ found (key reds 3) ∷ found (key bins 1) ∷ found (key reds 1) ∷ found (key reds 1) ∷ found (key blues 2)
    ∷ found (key blues 2) ∷ found (key blues 2) ∷ []
unfolding effect image_of
from_the_owner_answers = refl

-- NEXT and PRIOR want the position in the list; a record that was taken out lives, and its place comes back with it
abbrev pub from_a_lost_position : List (ℕ × Statement)
from_a_lost_position =
    reds_and_blues ++ by 1 (
    find (Key (key reds 2)) ∷ Remove content ∷ find (InSet Next (Some blues) content) ∷ find_in_set Prior content
    ∷ find_in_set (Nth (pos 2)) content ∷ find (Key (key reds 2)) ∷ find_in_set Next content
    ∷ find (Key (key reds 3)) ∷ Remove content ∷ find (CurrentOfSet content) ∷ find_in_set Prior content
    ∷ Insert content ∷ find_in_set Prior content ∷ [])

from_a_lost_position_answers : drop 7 (run mixed 10 1 from_a_lost_position).answers
    ≡ found (key reds 2) ∷ done ∷ no PositionLost ∷ no PositionLost ∷ found (key blues 1) ∷ found (key reds 2)
    ∷ found (key blues 2) ∷ found (key reds 3) ∷ done ∷ found (key reds 3) ∷ no PositionLost ∷ done
    ∷ found (key blues 2) ∷ []
unfolding effect image_of
from_a_lost_position_answers = refl

from_a_lost_position_lists : (run mixed 10 1 from_a_lost_position).lists
    ≡ ((Rec (key bins 1), key reds 1 ∷ key blues 1 ∷ key blues 2 ∷ key reds 3 ∷ []) ∷ [])
    ∷ []
unfolding effect image_of
from_a_lost_position_lists = refl

-- in an area by key: record types in their order, then numbers
abbrev pub in_an_area : List (ℕ × Statement)
in_an_area =
    reds_and_blues ++ by 1 (
    find_in_area First yard ∷ find_in_area Prior yard ∷ find_in_area Next yard
    ∷ find (InArea Next (Some blues) yard) ∷ find (InArea Prior (Some reds) yard) ∷ find_in_area Prior yard
    ∷ find (InArea Prior (Some blues) yard) ∷ find (InArea Prior (Some bins) yard) ∷ find_in_area Last yard
    ∷ find_in_area Next yard ∷ find (InArea Last (Some reds) yard) ∷ find_in_area (Nth (pos 2)) yard
    ∷ find_in_area (Nth (negsuc 1)) yard ∷ find (InArea (Nth (pos 3)) (Some reds) yard)
    ∷ find (InArea (Nth (negsuc 2)) (Some reds) yard) ∷ find (InArea (Nth (pos 4)) (Some reds) yard)
    ∷ find_in_area (Nth (pos 6)) yard ∷ find_in_area (Nth (pos 7)) yard ∷ find (InArea First (Some blues) yard)
    ∷ [])

in_an_area_answers : drop 7 (run mixed 10 1 in_an_area).answers
    ≡ found (key bins 1) ∷ no End ∷ found (key reds 1) ∷ found (key blues 1) ∷ found (key reds 3)
    ∷ found (key reds 2) ∷ no End ∷ found (key bins 1) ∷ found (key blues 2) ∷ no End ∷ found (key reds 3)
    ∷ found (key reds 1) ∷ found (key blues 1) ∷ found (key reds 3) ∷ found (key reds 1) ∷ no End
    ∷ found (key blues 2) ∷ no End ∷ found (key blues 1) ∷ []
unfolding effect image_of
in_an_area_answers = refl

-- by two CALC items, on to the next with the values that the current has now; CALC values of a type without duplicates
abbrev pub by_two_items : List (ℕ × Statement)
by_two_items =
    by 1 (
    OpenArea room Update ∷ store desks (Num 1 ∷ []) ∷ store notes (Num 1 ∷ text "A " ∷ []) ∷ Insert by_word
    ∷ store notes (Num 1 ∷ text "B " ∷ []) ∷ Insert by_word ∷ store notes (Num 1 ∷ text "AB" ∷ [])
    ∷ Insert by_word ∷ store notes (Num 1 ∷ text "AB" ∷ []) ∷ Insert by_word ∷ find (Sorted by_word (text "AB"))
    ∷ find (Sorted by_word (text "C ")) ∷ find (Calc notes (Num 1 ∷ text "AB" ∷ [])) ∷ find (NextDuplicate notes)
    ∷ find (NextDuplicate notes) ∷ modify notes 1 (text "B ") ∷ find (NextDuplicate notes)
    ∷ find (Key (key notes 2)) ∷ find (NextDuplicate notes) ∷ find (Calc notes (Num 2 ∷ text "B " ∷ []))
    ∷ store desks (Num 1 ∷ []) ∷ store desks (Num 2 ∷ []) ∷ modify desks 0 (Num 1) ∷ modify desks 0 (Num 2)
    ∷ find (Calc desks (Num 2 ∷ [])) ∷ [])

by_two_items_answers : (run desk 10 1 by_two_items).answers
    ≡ done ∷ found (key desks 1) ∷ found (key notes 1) ∷ done ∷ found (key notes 2) ∷ done ∷ found (key notes 3)
    ∷ done ∷ found (key notes 4) ∷ no DuplicatesNotAllowed ∷ found (key notes 3) ∷ no NoneSatisfies
    ∷ found (key notes 3) ∷ found (key notes 4) ∷ no End ∷ done ∷ no End ∷ found (key notes 2)
    ∷ found (key notes 4) ∷ no NoneSatisfies ∷ no DuplicatesNotAllowed ∷ found (key desks 2)
    ∷ no DuplicatesNotAllowed ∷ done ∷ found (key desks 2) ∷ []
unfolding effect image_of
by_two_items_answers = refl
