-- The diagram of a schema in the language of Graphviz.
use Rattle.std.specs.Prelude.{ℕ, ◌+◌, List, [], ◌∷◌, ◌++◌, Option, Some, None, decimal, codes, length}
use Rattle.std.specs.List.{flat_map}
use Rattle.dbtg_schema.specs.Lists.{Lists}
use Rattle.dbtg_schema.specs.declared.shape.Area.{Area}
use Rattle.dbtg_schema.specs.declared.shape.Calc.{Calc}
use Rattle.dbtg_schema.specs.declared.shape.Item.{Item}
use Rattle.dbtg_schema.specs.declared.shape.Member.{Member}
use Rattle.dbtg_schema.specs.declared.shape.RecordType.{RecordType}
use Rattle.dbtg_schema.specs.declared.shape.SetType.{SetType}
use Rattle.dbtg_draw.specs.Lines.{area_name, calc_text, item_text, member_text, order_text, type_name}

-- a name between quotation marks
unfoldable pub quoted : List ℕ → List ℕ
quoted name = codes "\"" ++ name ++ codes "\""

-- ---- the head

-- the first line: a directed graph with the name of the schema
unfoldable pub front_text : List ℕ → List ℕ
front_text name = codes "digraph " ++ quoted name ++ codes " {\n"

-- owners stand above members, and the title above all
unfoldable pub graph_text : List ℕ
graph_text = codes "graph [rankdir=TB labelloc=t bgcolor=white nodesep=0.2 ranksep=0.35 splines=polyline fontname=monospace fontsize=10]\n"

-- how boxes and arrows are drawn; the scheme has a colour for each area
unfoldable pub style_text : List ℕ
style_text = codes "node [shape=record style=filled colorscheme=pastel28 height=0 margin=\"0.06,0.03\" fontname=monospace fontsize=10]\nedge [arrowsize=0.7 fontname=monospace fontsize=10]\n"

-- ---- the title and the legend: of areas, and of the letters at boxes and arrows

-- the scheme's colours go by numbers from 1
unfoldable pub colour_number : ℕ → ℕ
colour_number a = a + 1

-- the colour of an area
unfoldable pub colour_text : ℕ → List ℕ
colour_text a = decimal (colour_number a)

-- the beginning of a cell, up to its colour
unfoldable pub cell_text : List ℕ
cell_text = codes "<td bgcolor=\"/pastel28/"

-- an area on its colour
unfoldable pub area_cell : List ℕ → ℕ → List ℕ
area_cell name a = cell_text ++ colour_text a ++ codes "\">" ++ name ++ codes "</td>\n"

-- from area a on
abbrev pub area_cells : ℕ → List Area → List ℕ
area_cells a [] = []
area_cells a (area ∷ areas) = area_cell area.name a ++ area_cells (a + 1) areas

-- the beginning of the table, up to the title's width in cells
unfoldable pub table_text : List ℕ
table_text = codes "label=<<table border=\"0\" cellborder=\"1\" cellspacing=\"4\">\n<tr><td border=\"0\" colspan=\""

-- the end of the title's cell, and the beginning of the row of areas
unfoldable pub row_text : List ℕ
row_text = codes "</b></td></tr>\n<tr>\n"

-- the schema, after the width of the title's cell
unfoldable pub heading_text : List ℕ → List ℕ
heading_text name = codes "\"><b>SCHEMA " ++ name

-- the title stands over all areas
unfoldable pub title_text : List ℕ → ℕ → List ℕ
title_text name areas = table_text ++ decimal areas ++ heading_text name ++ row_text

-- the end of the row of areas, and the beginning of the row of letters, up to its width in cells
unfoldable pub letters_row : List ℕ
letters_row = codes "</tr>\n<tr><td border=\"0\" colspan=\""

-- what the letters stand for, and the end of the table
unfoldable pub letters_text : List ℕ
letters_text = codes "\" balign=\"left\">MA, MM, OA, OM: MANDATORY or OPTIONAL, AUTOMATIC or MANUAL<br/>CALC .. DA, DN: DUPLICATES ALLOWED, NOT ALLOWED<br/>SORTED .. DF, DL, DN: DUPLICATES FIRST, LAST, NOT ALLOWED<br/></td></tr>\n</table>>\n"

-- the letters stand below all areas
unfoldable pub letters : ℕ → List ℕ
letters areas = letters_row ++ decimal areas ++ letters_text

-- the title, the areas in a row below it, and the letters
unfoldable pub legend_text : Lists → List ℕ
legend_text schema = title_text schema.name (length schema.areas) ++ area_cells 0 schema.areas ++ letters (length schema.areas)

-- ---- boxes

-- a line of a box, set to the left
unfoldable pub left_line : List ℕ → List ℕ
left_line line = line ++ codes "\\l"

-- the location mode, nothing if it is not CALC
abbrev pub location_text : List Item → Option Calc → List ℕ
location_text items None = []
location_text items (Some c) = left_line (calc_text items c)

-- an item on a line of its own
unfoldable pub item_line : Item → List ℕ
item_line i = left_line (item_text i)

-- the words of a box: the name of the record type; location mode and area; the items
unfoldable pub record_label : Lists → RecordType → List ℕ
record_label schema r =
    quoted (codes "{" ++ r.name ++ codes "|" ++ location_text r.items r.calc ++ left_line (area_name schema r.area) ++ codes "|" ++ flat_map item_line r.items ++ codes "}")

-- the colour of a box
unfoldable pub fill_text : ℕ → List ℕ
fill_text a = codes " [fillcolor=" ++ colour_text a

-- the box of a record type, in the colour of its area
unfoldable pub record_node : Lists → RecordType → List ℕ
record_node schema r = quoted r.name ++ fill_text r.area ++ codes " label=" ++ record_label schema r ++ codes "]\n"

-- ---- arrows

-- SYSTEM stands once for each set that it owns, so it goes by the name of the set too
unfoldable pub system_name : SetType → List ℕ
system_name set = codes "SYSTEM " ++ set.name

-- the box that the arrows of a set come from
abbrev pub owner_name : Lists → SetType → Option ℕ → List ℕ
owner_name schema set None = system_name set
owner_name schema set (Some t) = type_name schema t

-- SYSTEM as the owner of a set: the word alone, without a box
abbrev pub system_node : SetType → Option ℕ → List ℕ
system_node set None = quoted (system_name set) ++ codes " [shape=plaintext style=\"\" width=0 label=SYSTEM]\n"
system_node set (Some t) = []

-- the words of an arrow stand in a cell, whose margin keeps them off the line
unfoldable pub words_text : List ℕ
words_text = codes "<<table border=\"0\"><tr><td balign=\"left\">"

-- the end of that cell
unfoldable pub words_end : List ℕ
words_end = codes "<br/></td></tr></table>>"

-- the set and the membership class, and below them the order
unfoldable pub member_label : Lists → SetType → Member → List ℕ
member_label schema set m = words_text ++ member_text set m ++ codes "<br/>" ++ order_text schema set.order m ++ words_end

-- the arrow from the owner to a member
unfoldable pub member_edge : Lists → SetType → Member → List ℕ
member_edge schema set m =
    quoted (owner_name schema set set.owner) ++ codes " -> " ++ quoted (type_name schema m.rtype) ++ codes " [label=" ++ member_label schema set m ++ codes "]\n"

-- SYSTEM where it owns the set, and an arrow to each member
unfoldable pub set_text : Lists → SetType → List ℕ
set_text schema set = system_node set set.owner ++ flat_map (member_edge schema set) set.members

-- ---- the whole

-- the whole text: title and areas, boxes, arrows
unfoldable pub dot_text : Lists → List ℕ
dot_text schema =
    front_text schema.name ++ graph_text ++ style_text ++ legend_text schema ++ flat_map (record_node schema) schema.types ++ flat_map (set_text schema) schema.sets ++ codes "}\n"
