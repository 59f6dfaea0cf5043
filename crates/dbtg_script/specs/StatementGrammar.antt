-- The grammar of a statement, with a role for each word.
use Rattle.std.specs.Prelude.{ℕ, Bool, true, false, not, List, codes}
use Rattle.std.specs.Str.{bytes_eq}
use Rattle.dbtg_schema.specs.Texts.Forms as forms
use Rattle.dbtg_schema.specs.Texts.Forms.{one, either, many, some, maybe, ◌▹◌}
use Rattle.dbtg_script.specs.declared.role.Role.{Role}
use Rattle.dbtg_script.specs.declared.role.Role.TheVariants as role
use Rattle.dbtg_script.specs.Tokens.{Token, plain, equals, literal}
use Rattle.dbtg_script.specs.Printing.Spelling.{is_number, is_signed, is_key}

-- what stands in one place: this very word, any word but this, any word, the sign =, a number with or without a minus, a key, or a value
pub data Kind : Type 0 where
  key : List ℕ → Kind
  other_than : List ℕ → Kind
  name : Kind
  equals_sign : Kind
  signed : Kind
  keyed : Kind
  value : Kind

-- which plain words fit
abbrev pub fits_plain : Kind → List ℕ → Bool
fits_plain (key k) t = bytes_eq t k
fits_plain (other_than k) t = not (bytes_eq t k)
fits_plain name t = true
fits_plain equals_sign t = false
fits_plain signed t = is_signed t
fits_plain keyed t = is_key t
fits_plain value t = is_number t

-- what the sign = fits
abbrev pub is_equals : Kind → Bool
is_equals equals_sign = true
is_equals _ = false

-- what a literal in quotes fits
abbrev pub is_value : Kind → Bool
is_value value = true
is_value _ = false

-- which token fits: a plain word, the sign =, a literal
abbrev pub fits : Kind → Token → Bool
fits k (plain t) = fits_plain k t
fits k equals = is_equals k
fits k (literal t) = is_value k

-- the forms of this grammar, and what they are made of
abbrev pub Form : Type 0
Form = forms.Form Kind Role

-- a token with its role
abbrev pub Labelled : Type 0
Labelled = forms.Labelled Token Role

-- this word, without any further meaning
abbrev pub say : List ℕ → Form
say w = one (key w) role.Plain

-- this word, with a role
abbrev pub word : List ℕ → Role → Form
word w r = one (key w) r

-- SUPPRESS ( ALL | ( RECORD | AREA | s )+ )
abbrev pub currents : Form
currents = either (word (codes "RECORD") role.SuppressTypes) (either (word (codes "AREA") role.SuppressAreas) (one name role.SuppressSet))

-- which currents stay as they were
abbrev pub suppress : Form
suppress = say (codes "SUPPRESS") ▹ either (word (codes "ALL") role.SuppressAll) (some currents)

-- i = v, and another one if SUPPRESS could come there too
abbrev pub assignment : Form
assignment = one name role.ItemName ▹ one equals_sign role.Plain ▹ one value role.Value

-- another one, which does not begin a SUPPRESS
abbrev pub further : Form
further = one (other_than (codes "SUPPRESS")) role.ItemName ▹ one equals_sign role.Plain ▹ one value role.Value

-- OPEN AREA a USAGE-MODE [ IS ] [ PROTECTED | EXCLUSIVE ] ( RETRIEVAL | UPDATE )
abbrev pub sharing : Form
sharing = either (word (codes "PROTECTED") role.Protected) (word (codes "EXCLUSIVE") role.Exclusive)

-- what is done there
abbrev pub access : Form
access = either (word (codes "RETRIEVAL") role.Retrieval) (word (codes "UPDATE") role.Update)

-- how the area is used
abbrev pub usage_mode : Form
usage_mode = say (codes "USAGE-MODE") ▹ maybe (say (codes "IS")) ▹ maybe sharing ▹ access

-- a unit opens an area
abbrev pub opening : Form
opening = word (codes "OPEN") role.Open ▹ say (codes "AREA") ▹ one name role.AreaName ▹ usage_mode

-- CLOSE AREA a
abbrev pub closing : Form
closing = word (codes "CLOSE") role.Close ▹ say (codes "AREA") ▹ one name role.AreaName

-- the words after a name that say its kind
abbrev pub set_word : Form
set_word = word (codes "SET") role.KindSet

-- a record type
abbrev pub record_word : Form
record_word = word (codes "RECORD") role.RecordWord

-- a set or an area
abbrev pub set_or_area : Form
set_or_area = either set_word (word (codes "AREA") role.KindArea)

-- any of the three
abbrev pub any_kind : Form
any_kind = either (word (codes "RECORD") role.KindRecord) set_or_area

-- OF s SET, OF r RECORD
abbrev pub of_set : Form
of_set = say (codes "OF") ▹ one name role.Name ▹ set_word

-- of a record type
abbrev pub of_type : Form
of_type = say (codes "OF") ▹ one name role.RecordName ▹ record_word

-- [ r RECORD ] OF x ( SET | AREA )
abbrev pub place : Form
place = say (codes "OF") ▹ one name role.Name ▹ set_or_area

-- a place, with members or records of one type only, if it is named
abbrev pub inside : Form
inside = either place (one name role.RecordName ▹ record_word ▹ place)

-- the forms of FIND
abbrev pub by_key : Form
by_key = word (codes "KEY") role.FindKey ▹ one keyed role.Key

-- CURRENT OF ( RUN-UNIT | x ( RECORD | SET | AREA ) )
abbrev pub current : Form
current = either (word (codes "RUN-UNIT") role.RunUnit) (one name role.Name ▹ any_kind)

-- the current of something
abbrev pub by_current : Form
by_current = word (codes "CURRENT") role.FindCurrent ▹ say (codes "OF") ▹ current

-- OWNER OF s SET
abbrev pub by_owner : Form
by_owner = word (codes "OWNER") role.FindOwner ▹ of_set

-- USING i = v ..
abbrev pub calc_items : Form
calc_items = say (codes "USING") ▹ assignment ▹ many further

-- CALC r RECORD USING ..
abbrev pub by_calc : Form
by_calc = word (codes "CALC") role.FindCalc ▹ one name role.RecordName ▹ record_word ▹ calc_items

-- SORTED v OF s SET
abbrev pub by_sort_key : Form
by_sort_key = word (codes "SORTED") role.FindSorted ▹ one value role.SortedValue ▹ of_set

-- DUPLICATE OF r RECORD, or the next in a place
abbrev pub next_one : Form
next_one = either (word (codes "DUPLICATE") role.FindDuplicate ▹ of_type) inside

-- NEXT ..
abbrev pub by_next : Form
by_next = word (codes "NEXT") role.WhichNext ▹ next_one

-- FIRST, LAST, PRIOR, or the n-th from either end
abbrev pub other_which : Form
other_which = either (word (codes "FIRST") role.WhichFirst) (either (word (codes "LAST") role.WhichLast) (either (word (codes "PRIOR") role.WhichPrior) (one signed role.WhichNumber)))

-- which one in a place
abbrev pub by_which : Form
by_which = other_which ▹ inside

-- one of them
abbrev pub find_form : Form
find_form = either by_key (either by_current (either by_owner (either by_calc (either by_sort_key (either by_next by_which)))))

-- FIND .. [ SUPPRESS .. ]
abbrev pub find : Form
find = word (codes "FIND") role.Find ▹ find_form ▹ maybe suppress

-- GET [ r ]
abbrev pub getting : Form
getting = word (codes "GET") role.Get ▹ maybe (one name role.TypeName)

-- STORE r [ i = v .. ] [ SUPPRESS .. ]
abbrev pub storing : Form
storing = word (codes "STORE") role.Store ▹ one name role.TypeName ▹ many further ▹ maybe suppress

-- INSERT INTO s
abbrev pub inserting : Form
inserting = word (codes "INSERT") role.Insert ▹ say (codes "INTO") ▹ one name role.SetName

-- REMOVE FROM s
abbrev pub removing : Form
removing = word (codes "REMOVE") role.Remove ▹ say (codes "FROM") ▹ one name role.SetName

-- MODIFY r i = v ..
abbrev pub modifying : Form
modifying = word (codes "MODIFY") role.Modify ▹ one name role.TypeName ▹ some assignment

-- DELETE [ ONLY | SELECTIVE | ALL ]
abbrev pub deleting : Form
deleting = word (codes "DELETE") role.Delete ▹ maybe (either (word (codes "ONLY") role.Only) (either (word (codes "SELECTIVE") role.Selective) (word (codes "ALL") role.All)))

-- KEEP
abbrev pub keeping : Form
keeping = word (codes "KEEP") role.Keep

-- FREE [ ALL ]
abbrev pub freeing : Form
freeing = word (codes "FREE") role.Free ▹ maybe (word (codes "ALL") role.FreeAll)

-- any statement
abbrev pub statement : Form
statement = either opening (either closing (either find (either getting (either storing (either inserting (either removing (either modifying (either deleting (either keeping freeing)))))))))
