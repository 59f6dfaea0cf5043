-- The grammar of a schema text, with a role for each word.
use Rattle.std.specs.Prelude.{ℕ, Bool, List, codes}
use Rattle.std.specs.Str.{bytes_eq}
use Rattle.dbtg_schema.specs.declared.role.Role.{Role}
use Rattle.dbtg_schema.specs.declared.role.Role.TheVariants as role
use Rattle.dbtg_schema.specs.Texts.Words.{Word}
use Rattle.dbtg_schema.specs.Texts.Spelling.{is_name, is_picture}
use Rattle.dbtg_schema.specs.Texts.Forms as forms
use Rattle.dbtg_schema.specs.Texts.Forms.{one, either, many, some, maybe, ◌▹◌}

-- what stands in one place: this very word, a name, or a picture
pub data Kind : Type 0 where
  key : List ℕ → Kind
  name : Kind
  picture : Kind

-- a word is of a kind
abbrev pub fits : Kind → Word → Bool
fits (key k) w = bytes_eq w.text k
fits name w = is_name w.text
fits picture w = is_picture w.text

-- a form of the schema language
abbrev pub Form : Type 0
Form = forms.Form Kind Role

-- a way in which such a form can begin
abbrev pub Start : Type 0
Start = forms.Start Kind Role

-- a word of a schema text with its role
abbrev pub Labelled : Type 0
Labelled = forms.Labelled Word Role

-- a word without any further meaning
abbrev pub say : List ℕ → Form
say w = one (key w) role.Plain

-- the end of a sentence
abbrev pub period : Form
period = say (codes ".")

-- AREA NAME n
abbrev pub area : Form
area = one (key (codes "AREA")) role.AreaEntry ▹ say (codes "NAME") ▹ one name role.AreaName ▹ period

-- how records are found by value, or VIA a set
abbrev pub location : Form
location = say (codes "LOCATION") ▹ say (codes "MODE") ▹ either
    (say (codes "CALC") ▹ say (codes "USING") ▹ some (one name role.CalcItem) ▹ say (codes "DUPLICATES") ▹ maybe (one (key (codes "NOT")) role.Unique) ▹ say (codes "ALLOWED"))
    (say (codes "VIA") ▹ one name role.ViaSet ▹ say (codes "SET"))

-- 02 n PICTURE p
abbrev pub item : Form
item = one (key (codes "02")) role.ItemEntry ▹ one name role.ItemName ▹ either (say (codes "PICTURE")) (say (codes "PIC")) ▹ one picture role.Picture ▹ period

-- a record type with its items
abbrev pub rec : Form
rec = one (key (codes "RECORD")) role.RecordEntry ▹ say (codes "NAME") ▹ one name role.RecordName ▹ maybe location ▹ say (codes "WITHIN") ▹ one name role.WithinArea ▹ period ▹ many item

-- where a new member goes
abbrev pub order : Form
order = either (one (key (codes "FIRST")) role.OrderFirst)
    (either (one (key (codes "LAST")) role.OrderLast)
    (either (one (key (codes "NEXT")) role.OrderNext)
    (either (one (key (codes "PRIOR")) role.OrderPrior)
    (one (key (codes "SORTED")) role.Sorted ▹ either (one (key (codes "ASCENDING")) role.Ascending) (one (key (codes "DESCENDING")) role.Descending) ▹ say (codes "DUPLICATES")
    ▹ either (one (key (codes "FIRST")) role.DuplicatesFirst) (either (one (key (codes "LAST")) role.DuplicatesLast) (one (key (codes "NOT")) role.DuplicatesNot ▹ say (codes "ALLOWED")))))))

-- a MEMBER sentence
abbrev pub member : Form
member = one (key (codes "MEMBER")) role.MemberEntry ▹ one name role.MemberName
    ▹ either (one (key (codes "MANDATORY")) role.Mandatory) (one (key (codes "OPTIONAL")) role.Optional)
    ▹ either (one (key (codes "AUTOMATIC")) role.Automatic) (one (key (codes "MANUAL")) role.Manual)
    ▹ maybe (say (codes "KEY") ▹ one name role.KeyItem)
    ▹ maybe (say (codes "SET") ▹ say (codes "OCCURRENCE") ▹ say (codes "SELECTION") ▹ say (codes "THRU") ▹ say (codes "CURRENT") ▹ say (codes "OF") ▹ say (codes "SET"))
    ▹ one (key (codes ".")) role.MemberEnd

-- a set with its members
abbrev pub set : Form
set = one (key (codes "SET")) role.SetEntry ▹ say (codes "NAME") ▹ one name role.SetName ▹ say (codes "ORDER") ▹ order
    ▹ say (codes "OWNER") ▹ either (one name role.OwnerName) (one (key (codes "SYSTEM")) role.OwnerSystem) ▹ period ▹ some member

-- a whole schema text
abbrev pub schema : Form
schema = say (codes "SCHEMA") ▹ say (codes "NAME") ▹ one name role.SchemaName ▹ period ▹ some area ▹ some rec ▹ many set
