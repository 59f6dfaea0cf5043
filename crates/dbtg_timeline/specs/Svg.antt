-- The picture as SVG, of the same strips: moves, lanes, letters, ticket and status, and the text of the statement, in pixels.
use Rattle.std.specs.Prelude.{ℕ, ◌+◌, ◌*◌, ◌==◌, Bool, true, false, List, [], ◌∷◌, ◌++◌, Option, Some, None, codes, decimal, if◌then◌else◌, length, replicate}
use Rattle.std.specs.List.{flat_map}
use Rattle.dbtg_timeline.specs.declared.event.Event.{Event}
use Rattle.dbtg_timeline.specs.declared.lines.Drawn.{Drawn}
use Rattle.dbtg_timeline.specs.declared.strips.Front.{Front}
use Rattle.dbtg_timeline.specs.declared.strips.Strip.{Strip}
use Rattle.dbtg_timeline.specs.Marks.{ticket_letter}
use Rattle.dbtg_timeline.specs.Columns.{right}
use Rattle.dbtg_timeline.specs.Lines.{lines}
use Rattle.dbtg_timeline.specs.Strips.{after_strip, strips}
use Rattle.dbtg_timeline.specs.Text.{legend, second_legend}

-- ---- the parts of an element

-- a position, from the left and from the top
unfoldable pub place_text : ℕ → ℕ → List ℕ
place_text x y = codes " x='" ++ decimal x ++ codes "' y='" ++ decimal y ++ codes "'"

-- a byte of a text, as XML has it
abbrev pub escaped : ℕ → List ℕ
escaped b = if b == 38 then codes "&amp;" else (if b == 60 then codes "&lt;" else (if b == 62 then codes "&gt;" else b ∷ []))

-- words of one kind
unfoldable pub words_text : List ℕ → ℕ → ℕ → List ℕ → List ℕ
words_text kind x y words = codes "<text class='" ++ kind ++ codes "'" ++ place_text x y ++ codes ">" ++ flat_map escaped words ++ codes "</text>\n"

-- ---- where things stand: a lane is 16 pixels wide, a letter 9, a strip 18 high

-- the left edge of the letters, after the lanes
abbrev pub letters_left : ℕ → ℕ
letters_left units = 120 + 16 * units

-- the width of the picture
abbrev pub picture_width : ℕ → ℕ
picture_width units = letters_left units + 776

-- the height of the picture
abbrev pub picture_height : ℕ → ℕ
picture_height strips = 18 * strips + 84

-- ---- the head

-- the opening tag up to the size
unfoldable pub open_text : List ℕ
open_text = codes "<svg xmlns='http://www.w3.org/2000/svg' viewBox='0 0 "

-- the end of the opening tag, the title, and the background, as large as the picture
unfoldable pub title_text : List ℕ
title_text = codes "'><title>TIMELINE</title>\n<rect class='ground' width='100%' height='100%'/>\n"

-- width and height between these texts
unfoldable pub measures : ℕ → ℕ → List ℕ → List ℕ
measures width height between = decimal width ++ between ++ decimal height

-- the opening tag with the size, and the title
unfoldable pub size_text : ℕ → ℕ → List ℕ
size_text width height = open_text ++ measures width height (codes " ") ++ codes "' width='" ++ measures width height (codes "' height='") ++ title_text

-- letters, lanes and the kinds of letters, on a light background
unfoldable pub style_text : List ℕ
style_text = codes "<style>text{font:13px monospace;fill:#222}.ground{fill:#fff}.head,.T,.X,.B,.Q{font-weight:bold}.number{text-anchor:end}.own{fill:#2f65a7}.open{fill:#7f9cc0}.T{fill:#067a06}.X{fill:#c00;text-decoration:underline}.B{fill:#a85400}.R,.r{fill:#7a4b9a}.Q{fill:#a0a}.I{fill:#666}\n"

-- the same on a dark background, if the reader asks for a dark one
unfoldable pub dark_text : List ℕ
dark_text = codes "@media(prefers-color-scheme:dark){text{fill:#ddd}.ground{fill:#161b22}.own{fill:#6ea8ff}.open{fill:#4f78b0}.T{fill:#5fd35f}.X{fill:#ff7b72}.B{fill:#f0a050}.R,.r{fill:#c9a0f0}.Q{fill:#f080f0}.I{fill:#999}}</style>\n"

-- the numbers of the lanes, from n on
abbrev pub lane_heads : ℕ → List (List (List ℕ)) → List ℕ
lane_heads n [] = []
lane_heads n (script ∷ scripts) = words_text (codes "head") (104 + 16 * n) 24 (decimal n) ++ lane_heads (n + 1) scripts

-- the heads of the columns
unfoldable pub front_heads : ℕ → List ℕ
front_heads left =
    words_text (codes "head number") 64 24 (codes "MOVE") ++ words_text (codes "head number") 104 24 (codes "UNIT") ++ words_text (codes "head") left 24 (codes "EVENTS")

-- the heads of ticket, status and statement
unfoldable pub back_heads : ℕ → List ℕ
back_heads left =
    words_text (codes "head number") (left + 344) 24 (codes "TICKET") ++ words_text (codes "head") (left + 360) 24 (codes "STATUS")
    ++ words_text (codes "head") (left + 424) 24 (codes "STATEMENT")

-- ---- the lines

-- the lane of the unit of the line
unfoldable pub own_lane : ℕ → ℕ → List ℕ
own_lane x y = codes "<rect class='own'" ++ place_text x y ++ codes " width='8' height='18'/>\n"

-- the same, a little lower, where its statement begins
unfoldable pub begun_lane : ℕ → ℕ → List ℕ
begun_lane x y = codes "<rect class='own'" ++ place_text x (y + 3) ++ codes " width='8' height='15'/>\n"

-- one or the other, by whether its statement begins
abbrev pub line_lane : Bool → ℕ → ℕ → List ℕ
line_lane true x y = begun_lane x y
line_lane false x y = own_lane x y

-- another unit in mid-statement: thin, in the middle of the lane
unfoldable pub open_lane : ℕ → ℕ → List ℕ
open_lane x y = codes "<rect class='open'" ++ place_text (x + 3) y ++ codes " width='2' height='18'/>\n"

-- a lane: of the unit of the line, of another in mid-statement, or of one between statements
abbrev pub lane_text : Bool → Bool → Bool → ℕ → ℕ → List ℕ
lane_text begins true midway x y = line_lane begins x y
lane_text begins false true x y = open_lane x y
lane_text begins false false x y = []

-- from lane n on
abbrev pub lanes_text : Strip → ℕ → ℕ → List Bool → List ℕ
lanes_text s top n [] = []
lanes_text s top n (midway ∷ lanes) = lane_text s.begins (n == s.unit) midway (104 + 16 * n) top ++ lanes_text s top (n + 1) lanes

-- each letter as a text, of the kind that the letter says
abbrev pub letters_text : ℕ → ℕ → List ℕ → List ℕ
letters_text x y [] = []
letters_text x y (c ∷ cs) = words_text (c ∷ []) x y (c ∷ []) ++ letters_text (x + 9) y cs

-- ticket and status, if one is drawn; the status is of the kind of the ticket's letter
unfoldable pub drawn_text : ℕ → ℕ → Option Drawn → List ℕ
drawn_text left y None = []
drawn_text left y (Some d) =
    words_text (codes "number") (left + 344) y (decimal d.ticket) ++ words_text (ticket_letter d.status ∷ []) (left + 360) y (right 48 4 (decimal d.status))

-- the number of the first move, the unit, and what the line draws
unfoldable pub front_text : ℕ → ℕ → ℕ → Option Front → List ℕ
front_text left y unit None = []
front_text left y unit (Some f) =
    words_text (codes "number") 64 y (decimal f.first) ++ words_text (codes "number") 104 y (decimal unit) ++ drawn_text left y f.drawn

-- a strip: lanes, move and unit, ticket and status, letters, and words of the statement
unfoldable pub strip_text : ℕ → List Bool → ℕ → Strip → List ℕ
strip_text left lanes top s =
    lanes_text s top 1 lanes ++ front_text left (top + 13) s.unit s.front ++ letters_text left (top + 13) s.letters
    ++ words_text (codes "statement") (left + 424) (top + 13) s.words

-- the strips, one below another
abbrev pub strips_text : ℕ → List Bool → ℕ → List Strip → List ℕ
strips_text left lanes top [] = []
strips_text left lanes top (s ∷ ss) = strip_text left lanes top s ++ strips_text left (after_strip lanes s) (top + 18) ss

-- ---- the whole

-- what the letters mean, below the lines, and the end of the picture
unfoldable pub end_text : ℕ → List ℕ
end_text top = words_text (codes "legend") 16 (top + 22) legend ++ words_text (codes "legend") 16 (top + 40) second_legend ++ codes "</svg>\n"

-- everything above the strips
unfoldable pub top_text : List (List (List ℕ)) → ℕ → List ℕ
top_text scripts count =
    size_text (picture_width (length scripts)) (picture_height count) ++ style_text ++ dark_text ++ front_heads (letters_left (length scripts)) ++ back_heads (letters_left (length scripts)) ++ lane_heads 1 scripts

-- the picture of these strips
unfoldable pub drawn_strips : List (List (List ℕ)) → List Strip → List ℕ
drawn_strips scripts strips =
    top_text scripts (length strips) ++ strips_text (letters_left (length scripts)) (replicate (length scripts) false) 32 strips ++ end_text (32 + 18 * length strips)

-- the whole picture of these events, with a lane for each script
unfoldable pub timeline_svg : List (List (List ℕ)) → List Event → List ℕ
timeline_svg scripts events = drawn_strips scripts (strips scripts (lines events))
