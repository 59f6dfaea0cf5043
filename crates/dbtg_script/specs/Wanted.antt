-- What the grammar wants where a line has fault 3: the things that could come there, each in words.
use Rattle.std.specs.Prelude.{ℕ, false, List, [], ◌∷◌, ◌++◌, Option, Some, None, map, codes, if◌then◌else◌}
use Rattle.dbtg_schema.specs.Lists.{Lists}
use Rattle.dbtg_schema.specs.declared.shape.Picture.{Picture}
use Rattle.dbtg_schema.specs.declared.shape.Picture.TheVariants.{Number, Text}
use Rattle.dbtg_schema.specs.Texts.Forms.{labels, left_behind, may_end, starts}
use Rattle.dbtg_script.specs.declared.role.Role.{Role}
use Rattle.dbtg_script.specs.declared.role.Role.TheVariants as role
use Rattle.dbtg_script.specs.Labels.{named}
use Rattle.dbtg_script.specs.Lookups.{item_picture}
use Rattle.dbtg_script.specs.StatementFaults.{type_in}
use Rattle.dbtg_script.specs.StatementGrammar.{Kind, key, other_than, name, equals_sign, signed, keyed, value, fits, Form, Labelled, statement}
use Rattle.dbtg_script.specs.Tokens.{Token, tokens}

-- a name, described by what it names, if that is known
abbrev pub name_in_words : Role → List ℕ
name_in_words role.AreaName = codes "an area"
name_in_words role.RecordName = codes "a record type"
name_in_words role.TypeName = codes "a record type"
name_in_words role.SetName = codes "a set"
name_in_words role.SuppressSet = codes "a set"
name_in_words role.ItemName = codes "an item"
name_in_words _ = codes "a name"

-- a value, described by the picture of the item that it is for, if there is one
abbrev pub value_in_words : Option Picture → List ℕ
value_in_words None = codes "a number or a text in double quotes"
value_in_words (Some (Number n)) = codes "a number"
value_in_words (Some (Text n)) = codes "a text in double quotes"

-- what can come in one place, given the picture of the item that was named last
abbrev pub in_words : Option Picture → Kind → Role → List ℕ
in_words p (key k) r = k
in_words p (other_than k) r = name_in_words r
in_words p name r = name_in_words r
in_words p equals_sign r = codes "="
in_words p signed r = codes "a number"
in_words p keyed r = codes "a key"
in_words p value r = value_in_words p

-- what can come where this form is wanted
abbrev pub things : Option Picture → Form → List (List ℕ)
things p wanted = map (λ s. in_words p s.kind s.role) (starts wanted) ++ (if may_end wanted then codes "the line's end" ∷ [] else [])

-- the picture of the item that these words name last
abbrev pub last_picture : Lists → List Labelled → Option Picture
last_picture schema ws = item_picture schema (type_in schema ws) (named role.ItemName ws)

-- what is wanted in place of the first of these words that does not fit, or at the end
abbrev pub wanted_among : Lists → List Token → List (List ℕ)
wanted_among schema ts = things (last_picture schema (labels fits statement ts)) (left_behind fits statement ts)

-- the same for a statement's line
abbrev pub wanted_in_line : Lists → List ℕ → List (List ℕ)
wanted_in_line schema line = wanted_among schema (tokens false line)
