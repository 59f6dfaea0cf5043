-- What the grammar wants where a schema text has fault 3: the things that could come there, each in words.
use Rattle.std.specs.Prelude.{ℕ, List, [], ◌∷◌, ◌++◌, map, codes, length, nat_lt, if◌then◌else◌}
use Rattle.std.specs.Str.{bytes_eq}
use Rattle.dbtg_schema.specs.declared.limits.TheConstants.{SCHEMA_BYTES}
use Rattle.dbtg_schema.specs.declared.role.Role.{Role}
use Rattle.dbtg_schema.specs.declared.role.Role.TheVariants as role
use Rattle.dbtg_schema.specs.Texts.Forms.{left_behind, may_end, starts}
use Rattle.dbtg_schema.specs.Texts.SchemaGrammar.{Kind, key, name, picture, fits, Form, schema}
use Rattle.dbtg_schema.specs.Texts.Words.{text_words}

-- a name of something that exists already, or a new one
abbrev pub name_in_words : Role → List ℕ
name_in_words role.WithinArea = codes "an area"
name_in_words role.OwnerName = codes "a record type"
name_in_words role.MemberName = codes "a record type"
name_in_words role.ViaSet = codes "a set"
name_in_words role.CalcItem = codes "an item"
name_in_words role.KeyItem = codes "an item"
name_in_words _ = codes "a name"

-- what can come in one place; a period has a word of its own, as it is easily overlooked
abbrev pub in_words : Kind → Role → List ℕ
in_words (key k) r = if bytes_eq k (codes ".") then codes "a period" else k
in_words name r = name_in_words r
in_words picture r = codes "a picture"

-- what can come where this form is wanted
abbrev pub things : Form → List (List ℕ)
things wanted = map (λ s. in_words s.kind s.role) (starts wanted) ++ (if may_end wanted then codes "the end of the text" ∷ [] else [])

-- what is wanted in place of the first word that does not fit, or at the end; nothing for a text that is too long
abbrev pub wanted_in_schema : List ℕ → List (List ℕ)
wanted_in_schema text = if nat_lt SCHEMA_BYTES (length text) then [] else things (left_behind fits schema (text_words text))
