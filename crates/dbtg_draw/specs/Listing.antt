-- A schema in lines: a line for the schema, for each area, each record type and each set with its members.
use Rattle.std.specs.Prelude.{ℕ, List, [], ◌∷◌, ◌++◌, Option, Some, None, codes}
use Rattle.std.specs.List.{flat_map}
use Rattle.dbtg_schema.specs.Lists.{Lists}
use Rattle.dbtg_schema.specs.declared.shape.Area.{Area}
use Rattle.dbtg_schema.specs.declared.shape.Calc.{Calc}
use Rattle.dbtg_schema.specs.declared.shape.Item.{Item}
use Rattle.dbtg_schema.specs.declared.shape.Member.{Member}
use Rattle.dbtg_schema.specs.declared.shape.RecordType.{RecordType}
use Rattle.dbtg_schema.specs.declared.shape.SetType.{SetType}
use Rattle.dbtg_draw.specs.Lines.{area_name, calc_text, class_text, item_text, order_text, type_name}

-- a name after a word
abbrev pub named_line : List ℕ → List ℕ → List ℕ
named_line word name = word ++ name ++ 10 ∷ []

-- an area
abbrev pub area_line : Area → List ℕ
area_line a = named_line (codes "AREA ") a.name

-- a text after a comma
abbrev pub behind_comma : List ℕ → List ℕ
behind_comma text = codes ", " ++ text

-- an item of a record type
abbrev pub listed_item : Item → List ℕ
listed_item i = behind_comma (item_text i)

-- the CALC key, nothing without one
abbrev pub listed_calc : List Item → Option Calc → List ℕ
listed_calc items None = []
listed_calc items (Some c) = behind_comma (calc_text items c)

-- a record type: its area, its items with their pictures, its CALC key
abbrev pub record_line : Lists → RecordType → List ℕ
record_line schema r =
    codes "RECORD " ++ r.name ++ codes " WITHIN " ++ area_name schema r.area ++ flat_map listed_item r.items ++ listed_calc r.items r.calc ++ 10 ∷ []

-- the owner of a set
abbrev pub listed_owner : Lists → Option ℕ → List ℕ
listed_owner schema None = codes "SYSTEM"
listed_owner schema (Some t) = type_name schema t

-- a member of a set: how it belongs to it, and where a new one goes
abbrev pub listed_member : Lists → SetType → Member → List ℕ
listed_member schema set m =
    codes ", MEMBER " ++ type_name schema m.rtype ++ class_text m.class ++ codes " " ++ order_text schema set.order m

-- a set: its owner and its members
abbrev pub set_line : Lists → SetType → List ℕ
set_line schema set = codes "SET " ++ set.name ++ codes " OWNER " ++ listed_owner schema set.owner ++ flat_map (listed_member schema set) set.members ++ 10 ∷ []

-- the whole
abbrev pub schema_lines : Lists → List ℕ
schema_lines schema =
    named_line (codes "SCHEMA ") schema.name ++ flat_map area_line schema.areas ++ flat_map (record_line schema) schema.types ++ flat_map (set_line schema) schema.sets
