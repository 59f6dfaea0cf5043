-- Worked rows of the data.
use Rattle.std.proofs.Common.{◌≡◌, [], ◌∷◌, ◌++◌, true, refl, ap, ◌∙◌, Some, None}
use Rattle.std.specs.Prelude.{codes, decimal, option_and_then, option_map, slice_get, unwrap_or}
use Rattle.dbtg_cells.specs.declared.name.CellName.TheVariants.{Usage}
use Rattle.dbtg_step.specs.declared.watching.Newest.{Newest}
use Rattle.dbtg_step.specs.Core.Newest.{newest_at}
use Rattle.dbtg_step.specs.Core.Parts.{CoreState}
use Rattle.dbtg_timeline.specs.declared.event.Mark.TheVariants.{Blocked, TakeArea, TakeCell, Ticket}
use Rattle.dbtg_timeline.specs.Waiting.{area_name, cell_text}
use Rattle.dbtg_page.specs.Json.{field, quoted, row}
use Rattle.dbtg_page.specs.Changes.{changes, edits, name_of, parts, word_edits}
use Rattle.dbtg_page.specs.Changes.Edit.{Comes, Go, Stays, Turns}
use Rattle.dbtg_page.specs.Rows.{about_event, event_row}

-- what HTML or JSON could misread is written as its number, and so is the end of a line
marks_are_numbers : quoted (codes "A<B\"C\\\n~") ≡ codes "\"A\\u003cB\\u0022C\\u005c\\u000a~\""
unfolding quoted
marks_are_numbers = refl

-- a byte beyond ASCII
beyond_ascii : quoted (127 ∷ 255 ∷ []) ≡ codes "\"\\u007f\\u00ff\""
unfolding quoted
beyond_ascii = refl

-- a row of a kind alone, and one with two strings
kind_alone : row (codes "SETS") [] ≡ codes "[\"SETS\"],\n"
unfolding row quoted
kind_alone = refl

two_strings : row (codes "SCRIPT") (codes "GET" ∷ codes "FREE" ∷ []) ≡ codes "[\"SCRIPT\",\"GET\",\"FREE\"],\n"
unfolding row quoted field
two_strings = refl

-- the ticket of unit 2's eleventh statement, which is refused
a_refusal : (c : CoreState) → event_row c (record { unit = 2; mark = Ticket 12 505; place = 10; midway = true; below = [] }) ≡ row (codes "EVENT") (decimal 2 ∷ codes "X" ∷ decimal 10 ∷ [] ∷ [])
unfolding event_row
a_refusal c = refl

-- unit 2 is blocked
a_wait : (c : CoreState) → event_row c (record { unit = 2; mark = Blocked; place = 0; midway = true; below = codes "waits for MAIN, held exclusively by unit 1" }) ≡ row (codes "EVENT") (decimal 2 ∷ codes "B" ∷ decimal 0 ∷ codes "waits for MAIN, held exclusively by unit 1" ∷ [])
unfolding event_row
a_wait c = refl

-- a unit took an area, and then a cell
an_area : (c : CoreState) → c.schema.areas ≡ record { name = codes "MAIN" } ∷ [] → newest_at c 1 ≡ Some (record { area = Some 0; cell = None }) → about_event c 1 TakeArea [] ≡ codes "MAIN"
an_area c areas newest =
    ap (λ it. unwrap_or (option_map (area_name c.schema) (option_and_then (λ (it : Newest). it.area) it)) []) newest
    ∙ ap (λ it. unwrap_or (option_map (λ a. a.name) (slice_get it 0)) []) areas

a_cell : (c : CoreState) → c.schema.areas ≡ record { name = codes "MAIN" } ∷ [] → newest_at c 1 ≡ Some (record { area = Some 0; cell = Some (Usage 0) }) → about_event c 1 TakeCell [] ≡ codes "Usage(MAIN)"
unfolding cell_text
a_cell c areas newest =
    ap (λ it. unwrap_or (option_map (cell_text c.schema) (option_and_then (λ (it : Newest). it.cell) it)) []) newest
    ∙ ap (λ it. codes "Usage(" ++ unwrap_or (option_map (λ a. a.name) (slice_get it 0)) [] ++ codes ")") areas

-- ---- changes

-- a record is put, and as a member behind the others of its list
a_member_comes : changes (codes "A:1 N=1\nS A:1: B:1\n") (codes "A:1 N=1\nB:2 N=5\nS A:1: B:1 B:2\n")
    ≡ Stays ∷ Comes (codes "B:2 N=5") ∷ Turns (Stays ∷ Stays ∷ Stays ∷ Comes (codes "B:2") ∷ []) ∷ Stays ∷ []
unfolding edits parts name_of
a_member_comes = refl

-- a member goes; the lists of others stay
a_member_goes : changes (codes "S A:1: B:1 B:2 B:3\nS A:2: B:4\n") (codes "S A:1: B:1 B:3\nS A:2: B:4\n")
    ≡ Turns (Stays ∷ Stays ∷ Stays ∷ Go 1 ∷ Stays ∷ []) ∷ Stays ∷ Stays ∷ []
unfolding edits parts name_of
a_member_goes = refl

-- one that moves to the front, or to the end, is told alone
to_the_front : word_edits (codes "S A:1: B:1 B:2 B:3") (codes "S A:1: B:3 B:1 B:2") ≡ Stays ∷ Stays ∷ Comes (codes "B:3") ∷ Stays ∷ Stays ∷ Go 1 ∷ []
unfolding edits parts name_of
to_the_front = refl

to_the_end : word_edits (codes "S A:1: B:1 B:2 B:3") (codes "S A:1: B:2 B:3 B:1") ≡ Stays ∷ Stays ∷ Go 1 ∷ Stays ∷ Stays ∷ Comes (codes "B:1") ∷ []
unfolding edits parts name_of
to_the_end = refl

-- the currents of one unit move
a_current_moves : changes (codes "UNIT 1 RUN A:1\nUNIT 2 RUN A:1\n") (codes "UNIT 1 RUN A:1\nUNIT 2 RUN A:2\n")
    ≡ Stays ∷ Turns (Stays ∷ Stays ∷ Stays ∷ Comes (codes "A:2") ∷ Go 1 ∷ []) ∷ Stays ∷ []
unfolding edits parts name_of
a_current_moves = refl
