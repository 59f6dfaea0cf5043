-- What `timeline` and `page` print: the picture of the events that moves make, or the page of their run. Without moves or turns these
-- are the moves of the serial run.
-- text, scripts and order are bytes, lists is the schema that a text says.
use Rattle.std.specs.Prelude.{ℕ, ◌≡◌, Bool, true, false, List, ◌++◌, length, map}
use Rattle.dbtg_schema.specs.Lists.{Lists}
use Rattle.dbtg_unit.specs.declared.moves.Move.{Move}
use Rattle.dbtg_unit.specs.declared.statement.Statement.{Statement}
use Rattle.dbtg_script.specs.Lines.{statement_lines}
use Rattle.dbtg_script.specs.Statements.{script}
use Rattle.dbtg_timeline.specs.declared.event.Event.{Event}
use Rattle.dbtg_timeline.specs.Notes.{noted}
use Rattle.dbtg_timeline.specs.Svg.{timeline_svg}
use Rattle.dbtg_timeline.specs.Text.{timeline_text}
use Rattle.dbtg_timeline.specs.Watching.{events_of_run}
use Rattle.dbtg_page.specs.Rows.{page_text}
use Rattle.dbtg_explain.specs.declared.causes.TheConstants.{CAUSES}
use Rattle.dbtg_command.specs.declared.order.Order.{Order}
use Rattle.dbtg_command.specs.declared.order.Order.TheVariants.{Moves, Serial, Turns}
use Rattle.dbtg_command.specs.declared.order.OrderKind.{OrderKind}
use Rattle.dbtg_command.specs.declared.place.TextPlace.{TextPlace}
use Rattle.dbtg.specs.declared.timeline.Form.{Form}
use Rattle.dbtg.specs.declared.timeline.Form.TheVariants.{Page, Svg, Text}
use Rattle.dbtg_replay.specs.Explaining.{said_of_run}
use Rattle.dbtg_replay.specs.Ordering.{AreFirstMoves, StandFor, first_turns, serial_turns}
use Rattle.dbtg_command.specs.Refusals.{AcceptsOrder, AcceptsTexts, is_count, moves_in, schema_in, turns_in}
use Rattle.dbtg_command.specs.Sources.{Texts}

-- the events of the run; if it is explained, each ticket with what is said of its statement
abbrev pub events_shown : Bool → Lists → ℕ → List (List Statement) → List Move → List Event
events_shown false lists capacity scripts moves = events_of_run lists capacity scripts moves
events_shown true lists capacity scripts moves = map (noted (said_of_run lists capacity scripts moves)) (events_of_run lists capacity scripts moves)

-- the run of these moves: as plain text, as SVG, or as a page, which begins after those before
abbrev pub picture : Form → Lists → ℕ → List (List Statement) → List (List ℕ) → Bool → ℕ → List Move → List ℕ
picture (Text explained) lists capacity scripts texts events before moves = timeline_text (map statement_lines texts)
    (events_shown explained lists capacity scripts moves)
picture (Svg explained) lists capacity scripts texts events before moves = timeline_svg (map statement_lines texts)
    (events_shown explained lists capacity scripts moves)
picture (Page files) lists capacity scripts texts events before moves =
    page_text lists capacity scripts (record { files = files.now; scripts = map statement_lines texts; causes = CAUSES.now }) events before moves

-- the events of a page are those of moves that are given; without these it shows statements alone
abbrev pub has_events : Order (List ℕ) → Bool
has_events Serial = false
has_events (Moves text) = true
has_events (Turns text) = false

-- these moves say the order, or its turns stand for them; if one script is made first, its moves or turns come before them
abbrev pub AreInOrder : Bool → Lists → ℕ → List (List Statement) → Order (List ℕ) → List Move → Type 0
AreInOrder first lists capacity scripts Serial moves = StandFor lists capacity scripts (first_turns first scripts ++ serial_turns 1 scripts) moves
AreInOrder first lists capacity scripts (Moves text) moves = (before : List Move) × AreFirstMoves first lists capacity scripts before × (moves ≡ before ++ moves_in text)
AreInOrder first lists capacity scripts (Turns text) moves = StandFor lists capacity scripts (first_turns first scripts ++ turns_in text) moves

-- the number of moves that make the script that is made first
abbrev pub AreBefore : Bool → Lists → ℕ → List (List Statement) → ℕ → Type 0
AreBefore first lists capacity scripts count = (before : List Move) × AreFirstMoves first lists capacity scripts before × (count ≡ length before)

-- the text shows the run of such moves
pub record IsPictured (lists : Lists) (capacity : ℕ) (scripts : List (List Statement)) (texts : List (List ℕ)) (form : Form)
    (events first : Bool) (Are : List Move → Type 0) (out : List ℕ) : Type 0 where
  pub moves : List Move
  pub are : Are moves
  pub before : ℕ
  pub are_before : AreBefore first lists capacity scripts before
  pub is_text : out ≡ picture form lists capacity scripts texts events before moves

-- 1 to 8 scripts, nothing is refused, and the text shows the run of what the texts say
pub record IsTimeline (first : Bool) (text : List ℕ) (scripts : List (List ℕ)) (order : Order (List ℕ)) (capacity : ℕ) (form : Form) (out : List ℕ) : Type 0 where
  pub count : is_count (length scripts) ≡ true
  pub texts : AcceptsTexts text scripts
  pub order_too : AcceptsOrder order
  pub pictured : IsPictured (schema_in text) capacity (map (script (schema_in text)) scripts) scripts form (has_events order) first (AreInOrder first
      (schema_in text) capacity (map (script (schema_in text)) scripts) order) out

-- what `timeline` and `page` print of texts that are held
abbrev pub TimelineHeld : (TextPlace → List ℕ → Type 0) → ℕ → OrderKind → Bool → ℕ → Form → List ℕ → Type 0
TimelineHeld holds count which first capacity form out = (texts : Texts holds count which) × IsTimeline first texts.schema texts.scripts texts.order capacity form out
