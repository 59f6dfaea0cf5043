-- The picture as plain text: a line of column heads, the strips of the lines, and what the letters mean.
use Rattle.std.specs.Prelude.{ℕ, ◌+◌, ◌==◌, Bool, true, false, List, [], ◌∷◌, ◌++◌, Option, Some, None, codes, decimal, length, option_and_then, replicate, if◌then◌else◌}
use Rattle.dbtg_timeline.specs.declared.event.Event.{Event}
use Rattle.dbtg_timeline.specs.declared.lines.Drawn.{Drawn}
use Rattle.dbtg_timeline.specs.declared.strips.Front.{Front}
use Rattle.dbtg_timeline.specs.declared.strips.Strip.{Strip}
use Rattle.dbtg_timeline.specs.Columns.{left, right}
use Rattle.dbtg_timeline.specs.Lines.{lines}
use Rattle.dbtg_timeline.specs.Strips.{after_strip, strips}

-- the numbers of the lanes, from n on
abbrev pub lane_heads : ℕ → List (List (List ℕ)) → List ℕ
lane_heads n [] = []
lane_heads n (script ∷ scripts) = 32 ∷ decimal n ++ lane_heads (n + 1) scripts

-- the heads before the letters
unfoldable pub front_head : List (List (List ℕ)) → List ℕ
front_head scripts = codes "    MOVE UNIT" ++ lane_heads 1 scripts ++ codes " "

-- the heads of letters, ticket, status and statement
unfoldable pub events_head : List ℕ
events_head = codes "EVENTS                           TICKET  STATUS STATEMENT\n"

-- the heads of the columns
unfoldable pub head_text : List (List (List ℕ)) → List ℕ
head_text scripts = front_head scripts ++ events_head

-- the unit of the line, another one in mid-statement, or neither
abbrev pub lane_mark : Bool → Bool → ℕ
lane_mark true midway = 42
lane_mark false true = 124
lane_mark false false = 32

-- from lane n on
abbrev pub lanes_text : ℕ → ℕ → List Bool → List ℕ
lanes_text unit n [] = []
lanes_text unit n (midway ∷ lanes) = 32 ∷ lane_mark (n == unit) midway ∷ lanes_text unit (n + 1) lanes

-- ticket and status, if one is drawn
unfoldable pub drawn_text : Option Drawn → List ℕ
drawn_text None = codes "                "
drawn_text (Some d) = right 32 7 (decimal d.ticket) ++ codes "   " ++ right 48 4 (decimal d.status) ++ codes "  "

-- the number of the first move, and the unit
unfoldable pub front_text : ℕ → Option Front → List ℕ
front_text unit None = codes "             "
front_text unit (Some f) = right 32 8 (decimal f.first) ++ right 32 5 (decimal unit)

-- what the line draws stands in its first strip
abbrev pub drawn_of : Option Front → Option Drawn
drawn_of front = option_and_then (λ (f : Front). f.drawn) front

-- the letters in 32 columns, ticket and status, and words of the statement
unfoldable pub columns_text : List ℕ → Option Front → List ℕ → List ℕ
columns_text letters front words = left 32 letters ++ drawn_text (drawn_of front) ++ words

-- after the first strip, letters alone if no words are left
abbrev pub rest_text : List ℕ → Option Front → List ℕ → List ℕ
rest_text letters (Some f) words = columns_text letters (Some f) words
rest_text letters None words = if length words == 0 then letters else columns_text letters None words

-- a strip
unfoldable pub strip_text : List Bool → Strip → List ℕ
strip_text lanes s = front_text s.unit s.front ++ lanes_text s.unit 1 lanes ++ codes " " ++ rest_text s.letters s.front s.words ++ codes "\n"

-- the strips, each with the lanes that the one before leaves
abbrev pub strips_text : List Bool → List Strip → List ℕ
strips_text lanes [] = []
strips_text lanes (s ∷ ss) = strip_text lanes s ++ strips_text (after_strip lanes s) ss

-- what the letters mean
unfoldable pub legend : List ℕ
legend = codes "b begin, a take area, c take cell, T ticket, X ticket of a refusal, l link, p put back, v leave area"

-- what the other letters mean
unfoldable pub second_legend : List ℕ
second_legend = codes "R turn back, r put back in turning back, Q quit, B blocked, I idle"

-- the whole text of these events, with a lane for each script
unfoldable pub timeline_text : List (List (List ℕ)) → List Event → List ℕ
timeline_text scripts events =
    head_text scripts ++ strips_text (replicate (length scripts) false) (strips scripts (lines events)) ++ legend ++ codes "\n" ++ second_legend ++ codes "\n"
