-- The states and the table of the reader, told by the grammar: what is left of the grammar in each state; the words of the
-- keywords; then the kinds of words and the rows of the table, as the grammar and the contracts have them.
use Rattle.std.specs.Prelude.{ℕ, List, map, codes}
use Rattle.dbtg_schema.specs.declared.role.Role.TheVariants as role
use Rattle.dbtg_schema.specs.declared.automaton.State.{State}
use Rattle.dbtg_schema.specs.declared.automaton.State.TheVariants as state
use Rattle.dbtg_schema.specs.declared.automaton.Kind as code_kind
use Rattle.dbtg_schema.specs.declared.automaton.Kind.TheVariants as code
use Rattle.dbtg_schema.specs.declared.automaton.Start as code_start
use Rattle.dbtg_schema.specs.declared.automaton.Keyword.{Keyword}
use Rattle.dbtg_schema.specs.declared.automaton.Keyword.TheVariants as keyword
use Rattle.dbtg_schema.specs.Texts.Forms.{nothing, one, either, many, some, ◌▹◌}
use Rattle.dbtg_schema.specs.Texts.SchemaGrammar.{Kind, key, name, picture, Form, Start, say, period, area, location, item, rec, order, member, set, schema}

-- the record types and the sets, at the end of each schema
abbrev pub records_and_sets : Form
records_and_sets = (rec ▹ many rec) ▹ many set

-- the areas, and what follows them
abbrev pub first_area : Form
first_area = some area ▹ records_and_sets

-- the name of the schema, and all after it
abbrev pub schema_name : Form
schema_name = one name role.SchemaName ▹ (period ▹ first_area)

-- what is left of an AREA sentence, then what follows it
abbrev pub in_area : Form → Form
in_area left = (left ▹ many area) ▹ records_and_sets

-- what is left of a record type, then what follows it
abbrev pub in_record : Form → Form
in_record left = (left ▹ many rec) ▹ many set

-- what is left of an item, then what follows it in its record type
abbrev pub in_item : Form → Form
in_item left = in_record (left ▹ many item)

-- the area of a record type, the end of its sentence, its items
abbrev pub area_and_items : Form
area_and_items = one name role.WithinArea ▹ (period ▹ many item)

-- the WITHIN clause of a record type, and its items
abbrev pub within : Form
within = say (codes "WITHIN") ▹ area_and_items

-- what is left of a LOCATION clause, then what follows it
abbrev pub in_location : Form → Form
in_location left = in_record (left ▹ within)

-- the end of a CALC clause: whether duplicates are allowed
abbrev pub allowed_or_not : Form
allowed_or_not = either (one (key (codes "NOT")) role.Unique) nothing ▹ say (codes "ALLOWED")

-- the items of a CALC clause after the first, and its end
abbrev pub calc_end : Form
calc_end = say (codes "DUPLICATES") ▹ allowed_or_not

-- the items of a CALC clause, and its end
abbrev pub calc_items : Form
calc_items = (one name role.CalcItem ▹ many (one name role.CalcItem)) ▹ calc_end

-- a CALC clause after its first word
abbrev pub using : Form
using = say (codes "USING") ▹ calc_items

-- a VIA clause after its first word
abbrev pub via_set : Form
via_set = one name role.ViaSet ▹ say (codes "SET")

-- CALC or VIA
abbrev pub calc_or_via : Form
calc_or_via = either (say (codes "CALC") ▹ using) (say (codes "VIA") ▹ via_set)

-- a RECORD sentence from LOCATION on, and the items
abbrev pub record_location : Form
record_location = either location nothing ▹ within

-- a RECORD sentence from the name on, and the items
abbrev pub record_name : Form
record_name = one name role.RecordName ▹ record_location

-- the picture of an item, and the end of its sentence
abbrev pub picture_end : Form
picture_end = one picture role.Picture ▹ period

-- the PICTURE clause of an item
abbrev pub picture_clause : Form
picture_clause = either (say (codes "PICTURE")) (say (codes "PIC")) ▹ picture_end

-- what is left of a set, then the sets after it
abbrev pub in_set : Form → Form
in_set left = left ▹ many set

-- the end of a SET sentence, and the members
abbrev pub members : Form
members = period ▹ (member ▹ many member)

-- the owner of a set, or SYSTEM, and what follows
abbrev pub owner : Form
owner = either (one name role.OwnerName) (one (key (codes "SYSTEM")) role.OwnerSystem) ▹ members

-- the OWNER clause of a set, and what follows
abbrev pub owner_clause : Form
owner_clause = say (codes "OWNER") ▹ owner

-- what is left of a set's order, then what follows it
abbrev pub in_order : Form → Form
in_order left = in_set (left ▹ owner_clause)

-- what becomes of duplicates in a sorted set
abbrev pub duplicates : Form
duplicates = either (one (key (codes "FIRST")) role.DuplicatesFirst) (either (one (key (codes "LAST")) role.DuplicatesLast) (one (key (codes "NOT")) role.DuplicatesNot ▹ say (codes "ALLOWED")))

-- the same with its first word
abbrev pub duplicates_clause : Form
duplicates_clause = say (codes "DUPLICATES") ▹ duplicates

-- the direction of a sorted set
abbrev pub direction : Form
direction = either (one (key (codes "ASCENDING")) role.Ascending) (one (key (codes "DESCENDING")) role.Descending)

-- a SET sentence from ORDER on, and the members
abbrev pub order_clause : Form
order_clause = say (codes "ORDER") ▹ (order ▹ owner_clause)

-- a SET sentence from the name on, and the members
abbrev pub set_name : Form
set_name = one name role.SetName ▹ order_clause

-- what is left of a MEMBER sentence, then what follows it
abbrev pub in_member : Form → Form
in_member left = in_set (left ▹ many member)

-- the end of a MEMBER sentence
abbrev pub member_end : Form
member_end = one (key (codes ".")) role.MemberEnd

-- what is left of a member's SET SELECTION, then the end of its sentence
abbrev pub in_selection : Form → Form
in_selection left = in_member (left ▹ member_end)

-- SET SELECTION from OF on
abbrev pub of_set : Form
of_set = say (codes "OF") ▹ say (codes "SET")

-- SET SELECTION from CURRENT on
abbrev pub current : Form
current = say (codes "CURRENT") ▹ of_set

-- SET SELECTION from THRU on
abbrev pub thru : Form
thru = say (codes "THRU") ▹ current

-- SET SELECTION from SELECTION on
abbrev pub selection : Form
selection = say (codes "SELECTION") ▹ thru

-- SET SELECTION from OCCURRENCE on
abbrev pub occurrence : Form
occurrence = say (codes "OCCURRENCE") ▹ selection

-- a MEMBER sentence from SET SELECTION on
abbrev pub key_tail : Form
key_tail = either (say (codes "SET") ▹ occurrence) nothing ▹ member_end

-- a MEMBER sentence from its key on
abbrev pub member_tail : Form
member_tail = either (say (codes "KEY") ▹ one name role.KeyItem) nothing ▹ key_tail

-- a MEMBER sentence from AUTOMATIC or MANUAL on
abbrev pub connection : Form
connection = either (one (key (codes "AUTOMATIC")) role.Automatic) (one (key (codes "MANUAL")) role.Manual) ▹ member_tail

-- a MEMBER sentence from MANDATORY or OPTIONAL on
abbrev pub class : Form
class = either (one (key (codes "MANDATORY")) role.Mandatory) (one (key (codes "OPTIONAL")) role.Optional) ▹ connection

-- what is left of the grammar in a state of the reader
abbrev pub rest_of : State → Form
rest_of state.Opening = schema
rest_of state.SchemaNameWord = say (codes "NAME") ▹ schema_name
rest_of state.SchemaName = schema_name
rest_of state.SchemaPeriod = period ▹ first_area
rest_of state.FirstArea = first_area
rest_of state.AreaNameWord = in_area (say (codes "NAME") ▹ (one name role.AreaName ▹ period))
rest_of state.AreaName = in_area (one name role.AreaName ▹ period)
rest_of state.AreaPeriod = in_area period
rest_of state.Areas = many area ▹ records_and_sets
rest_of state.RecordNameWord = in_record (say (codes "NAME") ▹ record_name)
rest_of state.RecordName = in_record record_name
rest_of state.RecordLocation = in_record record_location
rest_of state.Mode = in_location (say (codes "MODE") ▹ calc_or_via)
rest_of state.WithinArea = in_record area_and_items
rest_of state.CalcOrVia = in_location calc_or_via
rest_of state.RecordPeriod = in_item period
rest_of state.Using = in_location using
rest_of state.ViaSet = in_location via_set
rest_of state.Items = in_record (many item)
rest_of state.FirstCalcItem = in_location calc_items
rest_of state.ViaSetWord = in_location (say (codes "SET"))
rest_of state.ItemName = in_item (one name role.ItemName ▹ picture_clause)
rest_of state.SetNameWord = in_set (say (codes "NAME") ▹ set_name)
rest_of state.CalcItems = in_location (many (one name role.CalcItem) ▹ calc_end)
rest_of state.Within = in_record within
rest_of state.PictureWord = in_item picture_clause
rest_of state.SetName = in_set set_name
rest_of state.NotOrAllowed = in_location allowed_or_not
rest_of state.ItemPicture = in_item picture_end
rest_of state.OrderWord = in_set order_clause
rest_of state.Allowed = in_location (say (codes "ALLOWED"))
rest_of state.Order = in_order order
rest_of state.OwnerWord = in_set owner_clause
rest_of state.Direction = in_order (direction ▹ duplicates_clause)
rest_of state.Owner = in_set owner
rest_of state.DuplicatesWord = in_order duplicates_clause
rest_of state.OwnerPeriod = in_set members
rest_of state.Duplicates = in_order duplicates
rest_of state.FirstMember = in_set (member ▹ many member)
rest_of state.OrderAllowed = in_order (say (codes "ALLOWED"))
rest_of state.MemberName = in_member (one name role.MemberName ▹ class)
rest_of state.Class = in_member class
rest_of state.Connection = in_member connection
rest_of state.MemberTail = in_member member_tail
rest_of state.KeyItem = in_member (one name role.KeyItem ▹ key_tail)
rest_of state.Occurrence = in_selection occurrence
rest_of state.Members = in_set (many member)
rest_of state.KeyTail = in_member key_tail
rest_of state.Selection = in_selection selection
rest_of state.Thru = in_selection thru
rest_of state.Current = in_selection current
rest_of state.Of = in_selection of_set
rest_of state.LastSetWord = in_selection (say (codes "SET"))
rest_of state.MemberPeriod = in_member member_end

-- the word of a keyword
abbrev pub spelling : Keyword → List ℕ
spelling keyword.Schema = codes "SCHEMA"
spelling keyword.Name = codes "NAME"
spelling keyword.Period = codes "."
spelling keyword.Area = codes "AREA"
spelling keyword.Record = codes "RECORD"
spelling keyword.Location = codes "LOCATION"
spelling keyword.Within = codes "WITHIN"
spelling keyword.Mode = codes "MODE"
spelling keyword.Calc = codes "CALC"
spelling keyword.Via = codes "VIA"
spelling keyword.Using = codes "USING"
spelling keyword.Level = codes "02"
spelling keyword.Set = codes "SET"
spelling keyword.Duplicates = codes "DUPLICATES"
spelling keyword.Picture = codes "PICTURE"
spelling keyword.Pic = codes "PIC"
spelling keyword.Not = codes "NOT"
spelling keyword.Allowed = codes "ALLOWED"
spelling keyword.Order = codes "ORDER"
spelling keyword.First = codes "FIRST"
spelling keyword.Last = codes "LAST"
spelling keyword.Next = codes "NEXT"
spelling keyword.Prior = codes "PRIOR"
spelling keyword.Sorted = codes "SORTED"
spelling keyword.Owner = codes "OWNER"
spelling keyword.Ascending = codes "ASCENDING"
spelling keyword.Descending = codes "DESCENDING"
spelling keyword.System = codes "SYSTEM"
spelling keyword.Member = codes "MEMBER"
spelling keyword.Mandatory = codes "MANDATORY"
spelling keyword.Optional = codes "OPTIONAL"
spelling keyword.Automatic = codes "AUTOMATIC"
spelling keyword.Manual = codes "MANUAL"
spelling keyword.Key = codes "KEY"
spelling keyword.Occurrence = codes "OCCURRENCE"
spelling keyword.Selection = codes "SELECTION"
spelling keyword.Thru = codes "THRU"
spelling keyword.Current = codes "CURRENT"
spelling keyword.Of = codes "OF"

-- a kind of word of the code, as the grammar has it
abbrev pub view_kind : code_kind.Kind → Kind
view_kind (code.Key k) = key (spelling k)
view_kind code.Name = name
view_kind code.Picture = picture

-- the word that is wanted, and what is left behind it
abbrev pub view_start : code_start.Start → Start
view_start s = record { kind = view_kind s.kind; role = s.role; rest = rest_of s.next }

-- the starts of a row of the table, as contracts see them
abbrev pub view_starts : List code_start.Start → List Start
view_starts ss = map view_start ss
