-- Where a new member goes, in each order.
-- What is expected was worked out by hand, from the rule that stands above each.
use Rattle.std.specs.Prelude.{◌≡◌, refl, ℕ, List, drop, [], ◌∷◌, ◌++◌}
use Rattle.dbtg_cells.specs.declared.key.Owner.TheVariants.{System, Rec}
use Rattle.dbtg_cells.specs.declared.key.Value.TheVariants.{Num}
use Rattle.dbtg_cells.specs.declared.usage.Mode.TheVariants.{Update}
use Rattle.dbtg_unit.specs.declared.statement.Form.TheVariants.{Key, OwnerOf, Sorted}
use Rattle.dbtg_unit.specs.declared.statement.Statement.TheVariants.{OpenArea, Insert}
use Rattle.dbtg_unit.specs.declared.statement.Statement.{Statement}
use Rattle.dbtg_unit.specs.declared.unit.Cause.TheVariants.{DuplicatesNotAllowed, NoneSatisfies}
use Rattle.dbtg_unit.specs.Database.Statements.Effect.{effect}
use Rattle.dbtg_unit.specs.Database.State.Image.{image_of}
use Rattle.dbtg_unit.proofs.Rows.Words.{find, store, modify, by, done, found, no, run, text, key}
use Rattle.dbtg_unit.proofs.Rows.Defined.OwnSchemas.{hall, shelves, books, at_end, up_only, down_only, shelf, room, desks, notes, by_word, desk}

-- FIRST directly after the owner, LAST at the end, NEXT directly after the position and first at the owner, PRIOR directly before
-- it and last at the owner; SORTED by rank (5 3 5 7 3), an equal one before or behind its equals
abbrev pub every_order : List (ℕ × Statement)
every_order =
    by 1 (
    OpenArea hall Update ∷ store shelves (Num 1 ∷ []) ∷ store books (Num 5 ∷ []) ∷ store books (Num 3 ∷ [])
    ∷ store books (Num 5 ∷ []) ∷ find (Key (key books 1)) ∷ store books (Num 7 ∷ []) ∷ find (OwnerOf at_end)
    ∷ store books (Num 3 ∷ []) ∷ [])

every_order_answers : (run shelf 10 1 every_order).answers
    ≡ done ∷ found (key shelves 1) ∷ found (key books 1) ∷ found (key books 2) ∷ found (key books 3)
    ∷ found (key books 1) ∷ found (key books 4) ∷ found (key shelves 1) ∷ found (key books 5) ∷ []
unfolding effect image_of
every_order_answers = refl

every_order_lists : (run shelf 10 1 every_order).lists
    ≡ ((Rec (key shelves 1), key books 5 ∷ key books 4 ∷ key books 3 ∷ key books 2 ∷ key books 1 ∷ []) ∷ [])
    ∷ ((Rec (key shelves 1), key books 1 ∷ key books 2 ∷ key books 3 ∷ key books 4 ∷ key books 5 ∷ []) ∷ [])
    ∷ ((Rec (key shelves 1), key books 5 ∷ key books 1 ∷ key books 4 ∷ key books 2 ∷ key books 3 ∷ []) ∷ [])
    ∷ ((Rec (key shelves 1), key books 3 ∷ key books 2 ∷ key books 4 ∷ key books 1 ∷ key books 5 ∷ []) ∷ [])
    ∷ ((Rec (key shelves 1), key books 5 ∷ key books 2 ∷ key books 3 ∷ key books 1 ∷ key books 4 ∷ []) ∷ [])
    ∷ ((Rec (key shelves 1), key books 2 ∷ key books 5 ∷ key books 1 ∷ key books 3 ∷ key books 4 ∷ []) ∷ [])
    ∷ ((Rec (key shelves 1), []) ∷ [])
    ∷ ((Rec (key shelves 1), key books 4 ∷ key books 3 ∷ key books 1 ∷ key books 5 ∷ key books 2 ∷ []) ∷ [])
    ∷ ((Rec (key shelves 1), key books 4 ∷ key books 1 ∷ key books 3 ∷ key books 2 ∷ key books 5 ∷ []) ∷ [])
    ∷ ((Rec (key shelves 1), []) ∷ [])
    ∷ []
unfolding effect image_of
every_order_lists = refl

-- where duplicates are not allowed an equal rank is refused
abbrev pub no_equal_ranks : List (ℕ × Statement)
no_equal_ranks =
    every_order ++ by 1 (
    find (Key (key books 1)) ∷ Insert up_only ∷ Insert down_only ∷ find (Key (key books 2)) ∷ Insert up_only
    ∷ Insert down_only ∷ find (Key (key books 3)) ∷ Insert up_only ∷ Insert down_only ∷ find (Key (key books 4))
    ∷ Insert up_only ∷ Insert down_only ∷ [])

no_equal_ranks_answers : drop 9 (run shelf 10 1 no_equal_ranks).answers
    ≡ found (key books 1) ∷ done ∷ done ∷ found (key books 2) ∷ done ∷ done ∷ found (key books 3)
    ∷ no DuplicatesNotAllowed ∷ no DuplicatesNotAllowed ∷ found (key books 4) ∷ done ∷ done ∷ []
unfolding effect image_of
no_equal_ranks_answers = refl

no_equal_ranks_lists : (run shelf 10 1 no_equal_ranks).lists
    ≡ ((Rec (key shelves 1), key books 5 ∷ key books 4 ∷ key books 3 ∷ key books 2 ∷ key books 1 ∷ []) ∷ [])
    ∷ ((Rec (key shelves 1), key books 1 ∷ key books 2 ∷ key books 3 ∷ key books 4 ∷ key books 5 ∷ []) ∷ [])
    ∷ ((Rec (key shelves 1), key books 5 ∷ key books 1 ∷ key books 4 ∷ key books 2 ∷ key books 3 ∷ []) ∷ [])
    ∷ ((Rec (key shelves 1), key books 3 ∷ key books 2 ∷ key books 4 ∷ key books 1 ∷ key books 5 ∷ []) ∷ [])
    ∷ ((Rec (key shelves 1), key books 5 ∷ key books 2 ∷ key books 3 ∷ key books 1 ∷ key books 4 ∷ []) ∷ [])
    ∷ ((Rec (key shelves 1), key books 2 ∷ key books 5 ∷ key books 1 ∷ key books 3 ∷ key books 4 ∷ []) ∷ [])
    ∷ ((Rec (key shelves 1), key books 2 ∷ key books 1 ∷ key books 4 ∷ []) ∷ [])
    ∷ ((Rec (key shelves 1), key books 4 ∷ key books 3 ∷ key books 1 ∷ key books 5 ∷ key books 2 ∷ []) ∷ [])
    ∷ ((Rec (key shelves 1), key books 4 ∷ key books 1 ∷ key books 3 ∷ key books 2 ∷ key books 5 ∷ []) ∷ [])
    ∷ ((Rec (key shelves 1), key books 4 ∷ key books 1 ∷ key books 2 ∷ []) ∷ [])
    ∷ []
unfolding effect image_of
no_equal_ranks_lists = refl

-- a changed rank gives a new place in the sorted sets alone, also where it stays the same: the first or the last of its equals
abbrev pub places_after_a_change : List (ℕ × Statement)
places_after_a_change =
    no_equal_ranks ++ by 1 (
    modify books 0 (Num 3) ∷ find (Key (key books 1)) ∷ modify books 0 (Num 5) ∷ find (Key (key books 4))
    ∷ modify books 0 (Num 0) ∷ [])

places_after_a_change_answers : drop 21 (run shelf 10 1 places_after_a_change).answers
    ≡ no DuplicatesNotAllowed ∷ found (key books 1) ∷ done ∷ found (key books 4) ∷ done ∷ []
unfolding effect image_of
places_after_a_change_answers = refl

places_after_a_change_lists : (run shelf 10 1 places_after_a_change).lists
    ≡ ((Rec (key shelves 1), key books 5 ∷ key books 4 ∷ key books 3 ∷ key books 2 ∷ key books 1 ∷ []) ∷ [])
    ∷ ((Rec (key shelves 1), key books 1 ∷ key books 2 ∷ key books 3 ∷ key books 4 ∷ key books 5 ∷ []) ∷ [])
    ∷ ((Rec (key shelves 1), key books 5 ∷ key books 1 ∷ key books 4 ∷ key books 2 ∷ key books 3 ∷ []) ∷ [])
    ∷ ((Rec (key shelves 1), key books 3 ∷ key books 2 ∷ key books 4 ∷ key books 1 ∷ key books 5 ∷ []) ∷ [])
    ∷ ((Rec (key shelves 1), key books 4 ∷ key books 5 ∷ key books 2 ∷ key books 1 ∷ key books 3 ∷ []) ∷ [])
    ∷ ((Rec (key shelves 1), key books 4 ∷ key books 2 ∷ key books 5 ∷ key books 3 ∷ key books 1 ∷ []) ∷ [])
    ∷ ((Rec (key shelves 1), key books 4 ∷ key books 2 ∷ key books 1 ∷ []) ∷ [])
    ∷ ((Rec (key shelves 1), key books 1 ∷ key books 3 ∷ key books 5 ∷ key books 2 ∷ key books 4 ∷ []) ∷ [])
    ∷ ((Rec (key shelves 1), key books 3 ∷ key books 1 ∷ key books 2 ∷ key books 5 ∷ key books 4 ∷ []) ∷ [])
    ∷ ((Rec (key shelves 1), key books 1 ∷ key books 2 ∷ key books 4 ∷ []) ∷ [])
    ∷ []
unfolding effect image_of
places_after_a_change_lists = refl

-- texts byte by byte, filled with spaces, descending: B, AB, A
abbrev pub words_by_their_bytes : List (ℕ × Statement)
words_by_their_bytes =
    by 1 (
    OpenArea room Update ∷ store desks (Num 1 ∷ []) ∷ store notes (Num 1 ∷ text "A " ∷ []) ∷ Insert by_word
    ∷ store notes (Num 1 ∷ text "B " ∷ []) ∷ Insert by_word ∷ store notes (Num 1 ∷ text "AB" ∷ [])
    ∷ Insert by_word ∷ store notes (Num 1 ∷ text "AB" ∷ []) ∷ Insert by_word ∷ find (Sorted by_word (text "AB"))
    ∷ find (Sorted by_word (text "C ")) ∷ [])

words_by_their_bytes_answers : (run desk 10 1 words_by_their_bytes).answers
    ≡ done ∷ found (key desks 1) ∷ found (key notes 1) ∷ done ∷ found (key notes 2) ∷ done ∷ found (key notes 3)
    ∷ done ∷ found (key notes 4) ∷ no DuplicatesNotAllowed ∷ found (key notes 3) ∷ no NoneSatisfies ∷ []
unfolding effect image_of
words_by_their_bytes_answers = refl

words_by_their_bytes_lists : (run desk 10 1 words_by_their_bytes).lists
    ≡ ((Rec (key desks 1), key notes 4 ∷ key notes 3 ∷ key notes 2 ∷ key notes 1 ∷ []) ∷ [])
    ∷ ((System, key notes 2 ∷ key notes 3 ∷ key notes 1 ∷ []) ∷ [])
    ∷ ((System, []) ∷ [])
    ∷ ((Rec (key desks 1), []) ∷ [])
    ∷ []
unfolding effect image_of
words_by_their_bytes_lists = refl
