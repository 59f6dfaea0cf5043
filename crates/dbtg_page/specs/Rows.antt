-- The page of a run: what surrounds its data, and their rows: one for the names of files and of each part of the schema, one for the
-- table of causes, one for the statements of each script, one for the database where the page begins, one for each event if events are
-- shown, and one for each ticket, with what it changes.
use Rattle.std.specs.Prelude.{ℕ, Bool, true, false, ◌-◌, List, [], ◌∷◌, ◌++◌}
use Rattle.std.specs.Prelude.{codes, decimal, drop, length, map, option_and_then, option_map, slice_get, take, unwrap_or}
use Rattle.std.specs.List.{flat_map}
use Rattle.dbtg_schema.specs.Lists.{Lists}
use Rattle.dbtg_unit.specs.Database.State.Image.{Image, image_of}
use Rattle.dbtg_unit.specs.Database.Laws.Replay.{State, opening_state, replay}
use Rattle.dbtg_unit.specs.declared.moves.Move.{Move}
use Rattle.dbtg_unit.specs.declared.statement.Statement.{Statement}
use Rattle.dbtg_unit.specs.declared.unit.Entry.{Entry}
use Rattle.dbtg_unit.specs.declared.unit.Unit as unit
use Rattle.dbtg_script.specs.Printing.Texts.{answer_text, image_text, units_text}
use Rattle.dbtg_step.specs.Core.CoreSteps.{after_move}
use Rattle.dbtg_step.specs.Core.Newest.{newest_at}
use Rattle.dbtg_step.specs.Core.Parts.{CoreState}
use Rattle.dbtg_step.specs.declared.watching.Newest.{Newest}
use Rattle.dbtg_step.specs.Machine.Headline.{entry_of}
use Rattle.dbtg_timeline.specs.declared.event.Event.{Event}
use Rattle.dbtg_timeline.specs.declared.event.Mark.{Mark}
use Rattle.dbtg_timeline.specs.declared.event.Mark.TheVariants.{TakeArea, TakeCell, Ticket}
use Rattle.dbtg_timeline.specs.Events.{event_of_move}
use Rattle.dbtg_timeline.specs.Marks.{letter}
use Rattle.dbtg_timeline.specs.Waiting.{area_name, cell_text}
use Rattle.dbtg_timeline.specs.Watching.{opening_core}
use Rattle.dbtg_page.specs.declared.markup.TheConstants.{MARKUP}
use Rattle.dbtg_page.specs.declared.script.TheConstants.{SCRIPT}
use Rattle.dbtg_page.specs.Json.{field, quoted, row}
use Rattle.dbtg_page.specs.Changes.{change_fields}

-- ---- before the run

-- the names of the files of schema and scripts, the text of each statement by its script, and what each cause of a refusal means
pub record Titles : Type 0 where
  pub files : List (List ℕ)
  pub scripts : List (List (List ℕ))
  pub causes : List ℕ

-- the files, the names of record types, sets and areas, the causes of refusals, and the statements of each script
unfoldable pub front_rows : Lists → Titles → List ℕ
front_rows schema titles =
    row (codes "FILES") titles.files ++ row (codes "TYPES") (map (λ t. t.name) schema.types) ++ row (codes "SETS") (map (λ s. s.name) schema.sets)
    ++ row (codes "AREAS") (map (λ a. a.name) schema.areas) ++ row (codes "CAUSES") (titles.causes ∷ []) ++ flat_map (row (codes "SCRIPT")) titles.scripts

-- ---- the run

-- the sequential database, with its units, to which the history of a core leads
abbrev pub sequential : CoreState → State
sequential c = replay c.schema c.capacity (opening_state c.schema (length c.state.units)) (map entry_of c.state.history)

-- the database and the units, as `replay` prints them
abbrev pub state_text : Lists → Image → List unit.Unit → List ℕ
state_text schema image units = image_text schema image.records image.lists image.next image.usage ++ units_text schema units

-- those to which the history of a core leads
unfoldable pub core_text : CoreState → List ℕ
core_text c = state_text c.schema (image_of c.schema c.capacity (sequential c).database) (sequential c).units

-- the line of the newest answer
abbrev pub newest_answer : Lists → List Entry → List ℕ
newest_answer schema history = unwrap_or (option_map (answer_text schema) (slice_get history (length history - 1))) []

-- the name of the area that unit u took last, and the text of the cell that it took last
abbrev pub newest_area : CoreState → ℕ → List ℕ
newest_area c u = unwrap_or (option_map (area_name c.schema) (option_and_then (λ (it : Newest). it.area) (newest_at c u))) []

abbrev pub newest_cell : CoreState → ℕ → List ℕ
newest_cell c u = unwrap_or (option_map (cell_text c.schema) (option_and_then (λ (it : Newest). it.cell) (newest_at c u))) []

-- what an event of unit u is about: the area or the cell that it took, or else what the unit waits for, and who holds that
abbrev pub about_event : CoreState → ℕ → Mark → List ℕ → List ℕ
about_event c u TakeArea wait = newest_area c u
about_event c u TakeCell wait = newest_cell c u
about_event c u _ wait = wait

-- an event: its unit, its letter, the place of its statement in the script, and what it is about; c is the core after it
unfoldable pub event_row : CoreState → Event → List ℕ
event_row c e = row (codes "EVENT") (decimal e.unit ∷ (letter e.mark ∷ []) ∷ decimal e.place ∷ about_event c e.unit e.mark e.below ∷ [])

-- a ticket: its answer, and what it changes in the text that was shown before
unfoldable pub change_row : List ℕ → List ℕ → List ℕ → List ℕ
change_row answer old new = 91 ∷ quoted (codes "TICKET") ++ field answer ++ change_fields old new ++ codes "],\n"

-- the row of a ticket
abbrev pub ticket_row : CoreState → List ℕ → Mark → List ℕ
ticket_row c shown (Ticket ticket status) = change_row (newest_answer c.schema (map entry_of c.state.history)) shown (core_text c)
ticket_row c shown _ = []

-- the text that is shown after an event
abbrev pub shown_behind : CoreState → List ℕ → Mark → List ℕ
shown_behind c shown (Ticket ticket status) = core_text c
shown_behind c shown _ = shown

-- the row of an event, if events are shown
abbrev pub event_rows : Bool → CoreState → Event → List ℕ
event_rows true c e = event_row c e
event_rows false c e = []

-- the rows of a move
abbrev pub move_rows : Bool → List ℕ → CoreState → Move → List ℕ
move_rows events shown c m = event_rows events (after_move c m) (event_of_move c m) ++ ticket_row (after_move c m) shown (event_of_move c m).mark

-- the rows of moves, one after another
abbrev pub rows_of_moves : Bool → List ℕ → CoreState → List Move → List ℕ
rows_of_moves events shown c [] = []
rows_of_moves events shown c (m ∷ ms) = move_rows events shown c m ++ rows_of_moves events (shown_behind (after_move c m) shown (event_of_move c m).mark)
    (after_move c m) ms

-- after moves that are not shown, the database there, and then the other moves
abbrev pub run_rows : Bool → CoreState → List Move → List Move → List ℕ
run_rows events c [] moves = row (codes "STATE") (core_text c ∷ []) ++ rows_of_moves events (core_text c) c moves
run_rows events c (b ∷ bs) moves = run_rows events (after_move c b) bs moves

-- ---- the whole

-- the page of the run of these moves, which begins after this many of them
unfoldable pub page_text : Lists → ℕ → List (List Statement) → Titles → Bool → ℕ → List Move → List ℕ
page_text schema capacity statements titles events before moves =
    MARKUP.now ++ front_rows schema titles ++ run_rows events (opening_core schema capacity statements) (take before moves) (drop before moves) ++ SCRIPT.now
