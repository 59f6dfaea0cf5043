-- The explanation of the word that a fault is about.
use Rattle.std.specs.Prelude.{ℕ, ◌-◌, ◌==◌, ◌||◌, Bool, false, List, [], ◌∷◌, ◌++◌, Option, codes, length, nat_le, nat_lt, option_map, slice_get, take, unwrap_or, if◌then◌else◌}
use Rattle.std.specs.Str.{bytes_eq}
use Rattle.dbtg_schema.specs.Lists.{Lists}
use Rattle.dbtg_schema.specs.Lookups.{first, some_and}
use Rattle.dbtg_schema.specs.Texts.SchemaFaults.{refusal}
use Rattle.dbtg_script.specs.FaultyWord.{faulty_word as faulty_token}
use Rattle.dbtg_script.specs.Lines.{lines, trimmed}
use Rattle.dbtg_script.specs.Printing.Spelling.{in_front}
use Rattle.dbtg_script.specs.Tokens.{Token, plain, equals, literal, tokens}
use Rattle.dbtg_explain.specs.declared.topic.Kind.TheVariants as kind
use Rattle.dbtg_explain.specs.declared.schema_word.TheConstants.{FORMS as SCHEMA_FORMS}
use Rattle.dbtg_explain.specs.declared.word.TheConstants.{FORMS as SCRIPT_FORMS}
use Rattle.dbtg_explain.specs.Explaining.{fault_field, field, filled, row_of}
use Rattle.dbtg_explain.specs.FaultyWord.{faulty_word, laid_out, line_in}
use Rattle.dbtg_explain.specs.Hints.{name_hint}
use Rattle.dbtg_explain.specs.Offered.{last_of, listed, names_for, names_in, seen_words, type_wanted}

-- the form for a fault with this number, of which part 0 is the word and part 3 what the fault means
abbrev pub form_for : ℕ → List ℕ → List ℕ
form_for number forms = unwrap_or (option_map (field 1) (row_of number forms)) (codes "0: 3")

-- the form with these parts; if there is no word nothing is said
abbrev pub said_by : List ℕ → List ℕ → List (List ℕ) → List ℕ
said_by form word parts = if length word == 0 then [] else filled parts form

-- a word of a script as it stands in its line
abbrev pub written : Token → List ℕ
written (plain text) = text
written equals = codes "="
written (literal text) = 34 ∷ text ++ 34 ∷ []

-- the word of a line that its fault is about, if it is about one
abbrev pub faulty_text : Lists → List ℕ → List ℕ
faulty_text schema line = unwrap_or (option_map written (faulty_token schema (trimmed line))) []

-- a fault of the line as a whole or of the text is about no word; that of a key's record type is about what names this type
abbrev pub told_part : ℕ → List ℕ → List ℕ
told_part number text = if number == 1 || number == 14 then [] else (if number == 5 then in_front 58 text else text)

-- the word of a line that is shown for a fault with this number
abbrev pub told_word : Lists → ℕ → List ℕ → List ℕ
told_word schema number line = told_part number (faulty_text schema line)

-- FIND, as a word of a line
abbrev pub is_find : Token → Bool
is_find (plain text) = bytes_eq text (codes "FIND")
is_find equals = false
is_find (literal text) = false

-- the record type whose items a line names: its second word, and the third after FIND CALC
abbrev pub type_token : List Token → Option Token
type_token words = slice_get words (if some_and is_find (first words) then 2 else 1)

-- the same as it stands in its line
abbrev pub type_text : List ℕ → List ℕ
type_text line = unwrap_or (option_map written (type_token (tokens false line))) []

-- the explanation of the name, the value or the key of a script's line that is at fault
abbrev pub said_of_name : Lists → ℕ → List ℕ → List ℕ
said_of_name schema number line =
    let word = told_word schema number line in
    let rtype = type_text line in
    said_by (form_for number SCRIPT_FORMS.now) word (word ∷ rtype ∷ listed (names_for schema number rtype) ∷ fault_field kind.Script number 1 ∷ [])

-- no word is shown for a byte that is not allowed and for a text that is too long, nor one of more than 480 bytes
abbrev pub told_schema_part : ℕ → List ℕ → List ℕ
told_schema_part number word = if nat_le number 2 || nat_lt 480 (length word) then [] else word

-- the word of a schema's text that is shown for a fault with this number
abbrev pub told_schema_word : ℕ → List ℕ → List ℕ
told_schema_word number text =
    let laid = laid_out text in
    told_schema_part number (faulty_word number (line_in number (refusal laid)) laid)

-- the explanation of the name, the picture or the entry of a schema's text that is at fault
abbrev pub said_of_schema_name : ℕ → List ℕ → List ℕ
said_of_schema_name number text =
    let laid = laid_out text in
    let front = seen_words (take (line_in number (refusal laid) - 1) (lines laid)) in
    let word = told_schema_word number text in
    let rtype = type_wanted front in
    let names = names_in number rtype (seen_words (lines laid)) front in
    said_by (form_for number SCHEMA_FORMS.now) word
    (word ∷ rtype ∷ listed names ∷ fault_field kind.Schema number 1 ∷ fault_field kind.Schema number 3 ∷ name_hint number (last_of front) word ∷ [])
