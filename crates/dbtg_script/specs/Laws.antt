-- Laws of scripts and printed texts.
use Rattle.std.specs.Prelude.{◌≡◌, ℕ, ◌+◌, ◌≤◌, ◌<◌, ◌^◌, Bool, true, false, ◌&&◌, nat_le, nat_lt, List, [], ◌∷◌, ◌++◌, length, map, slice_get, Some, None}
use Rattle.std.specs.List.{list_all, list_any, AllByRecursion}
use Rattle.dbtg_schema.specs.Texts.Forms.{labels}
use Rattle.dbtg_schema.specs.Lists.{Lists}
use Rattle.dbtg_schema.specs.Lookups.{first}
use Rattle.dbtg_schema.specs.Sound.{IsSound}
use Rattle.dbtg_schema.specs.Named.{IsNamed}
use Rattle.dbtg_cells.specs.declared.key.DbKey.{DbKey}
use Rattle.dbtg_cells.specs.declared.key.Owner.{Owner}
use Rattle.dbtg_cells.specs.declared.key.Owner.TheVariants.{System, Rec}
use Rattle.dbtg_cells.specs.declared.limits.TheConstants.{LAST_GENERATION}
use Rattle.dbtg_unit.specs.declared.unit.Unit as unit
use Rattle.dbtg_unit.specs.Database.State.Belongs.{IsUnitOf}
use Rattle.dbtg_unit.specs.Database.Statements.Fits.{if_named}
use Rattle.dbtg_unit.specs.Database.Laws.Replay.{entries_of}
use Rattle.dbtg_unit.specs.declared.moves.Move.{Move}
use Rattle.dbtg_unit.specs.declared.statement.Statement.{Statement}
use Rattle.dbtg_unit.specs.declared.unit.Entry.{Entry}
use Rattle.dbtg_unit.specs.declared.moves.Move.TheVariants.{Step, Quit}
use Rattle.dbtg_script.specs.declared.limits.TheConstants.{MOST_MOVES, SCRIPT_BYTES}
use Rattle.dbtg_script.specs.Printing.Echo.{lines_beside}
use Rattle.dbtg_script.specs.declared.fault.Cause.{Cause}
use Rattle.dbtg_script.specs.declared.fault.Cause.TheVariants.{NoStatementWord, UnexpectedWord}
use Rattle.dbtg_script.specs.Derivations.{Derivation}
use Rattle.dbtg_script.specs.Lines.{closes, is_statement, lines, statement_lines, trimmed}
use Rattle.dbtg_script.specs.Moves.{moves_of, refusal, words}
use Rattle.dbtg_script.specs.Turns.{turns_of, turns_refusal}
use Rattle.dbtg_script.specs.Printing.WordTexts.{moves_words_text, turns_text}
use Rattle.dbtg_script.specs.Printing.Spelling.{has_byte}
use Rattle.dbtg_script.specs.Lookups.{type_named}
use Rattle.dbtg_script.specs.Statements.{key_of, line_statement, prepend, script, statement_of}
use Rattle.dbtg_script.specs.Tokens.{tokens}
use Rattle.dbtg_script.specs.StatementGrammar.{fits, statement}
use Rattle.dbtg_script.specs.StatementFaults.{faults, line_faults, statement_faults}
use Rattle.dbtg_script.specs.StatementFaults as script_text
use Rattle.dbtg_script.specs.Printing.Texts.{key_text, type_name, unit_text}

-- a key in range, whose record type is found by its name; no name has a colon
pub record IsKeyOf (schema : Lists) (k : DbKey) : Type 0 where
  pub cache : type_named schema (type_name schema k.rtype) ≡ Some k.rtype
  pub no_colon : has_byte 58 (type_name schema k.rtype) ≡ false
  pub number_from : 1 ≤ k.number
  pub number_to : k.number ≤ 999999
  pub generation_from : 1 ≤ k.generation
  pub generation_to : k.generation ≤ LAST_GENERATION

-- what is read from a printed key is that key
abbrev pub PrintedKeyIsReadBack : Type 0
PrintedKeyIsReadBack = (schema : Lists) (k : DbKey) → IsKeyOf schema k → key_of schema (key_text schema k) ≡ k

-- a line without faults has a derivation, with the roles that its words are read with
abbrev pub LineWithoutFaultsIsDerived : Type 0
LineWithoutFaultsIsDerived = (schema : Lists) (line : List ℕ) → first (statement_faults schema line) ≡ None → (d : Derivation line) × (d.words ≡ labels fits statement (tokens false line))

-- the causes of faults at a word, or an end, that the grammar does not want
abbrev pub is_of_grammar : Cause → Bool
is_of_grammar NoStatementWord = true
is_of_grammar UnexpectedWord = true
is_of_grammar _ = false

-- a line that has a derivation has no such fault, and is read as the statement that the words of this derivation say; there is no other
abbrev pub DerivedLineIsRead : Type 0
DerivedLineIsRead =
    (schema : Lists) (line : List ℕ) (d : Derivation line)
    → (list_any is_of_grammar (statement_faults schema line) ≡ false) × (is_statement line ≡ true → line_statement schema line ≡ Some (statement_of schema d.words))
    × ((e : Derivation line) → e.words ≡ d.words)

-- a script whose statement lines each have a derivation has no such fault
abbrev pub DerivedScriptHasNoFaultOfGrammar : Type 0
DerivedScriptHasNoFaultOfGrammar =
    (schema : Lists) (text : List ℕ) → AllByRecursion (λ l. is_statement (trimmed l) ≡ true → Derivation (trimmed l)) (lines text)
    → list_any (λ f. is_of_grammar f.cause) (faults schema text) ≡ false

-- the numbers of a key are within their types
abbrev pub key_in_range : DbKey → Bool
key_in_range k = nat_lt k.number (2 ^ 32) && nat_lt k.generation (2 ^ 8)

-- and those of an owner
abbrev pub owner_in_range : Owner → Bool
owner_in_range System = true
owner_in_range (Rec k) = key_in_range k

-- every number of a unit is within its type
pub record IsInRange (u : unit.Unit) : Type 0 where
  pub number : u.number < 2 ^ 8
  pub run_unit : if_named key_in_range u.currency.run_unit ≡ true
  pub types : list_all (if_named key_in_range) u.currency.types ≡ true
  pub areas : list_all (if_named key_in_range) u.currency.areas ≡ true
  pub sets : list_all (if_named (λ p. owner_in_range p.owner && if_named key_in_range p.at)) u.currency.sets ≡ true
  pub kept : list_all (λ e. key_in_range e.0 && nat_lt e.1 (2 ^ 64)) u.kept ≡ true

-- units of a schema that print the same are equal, except for their modes
abbrev pub UnitsPrintDifferently : Type 0
UnitsPrintDifferently =
    (schema : Lists) → IsSound schema → IsNamed schema → (u v : unit.Unit) → IsUnitOf schema u → IsUnitOf schema v → IsInRange u → IsInRange v
    → unit_text schema u ≡ unit_text schema v → (u.number ≡ v.number) × (u.currency ≡ v.currency) × (u.kept ≡ v.kept)

-- a unit that a word of moves can name
abbrev pub is_unit_number : ℕ → Bool
is_unit_number u = nat_le 1 u && nat_le u 99

-- the unit of a move is one that a word can name
abbrev pub has_unit_number : Move → Bool
has_unit_number (Step u) = is_unit_number u
has_unit_number (Quit u) = is_unit_number u

-- the text of moves has no fault, and says these moves
abbrev pub PrintedMovesAreReadBack : Type 0
PrintedMovesAreReadBack =
    (ms : List Move) → list_all has_unit_number ms ≡ true → length ms ≤ MOST_MOVES
    → (refusal (moves_words_text ms) ≡ None) × (moves_of (words (moves_words_text ms)) ≡ ms)

-- the text of turns has no fault, and says these turns
abbrev pub PrintedTurnsAreReadBack : Type 0
PrintedTurnsAreReadBack =
    (us : List ℕ) → list_all is_unit_number us ≡ true → length us ≤ MOST_MOVES
    → (turns_refusal (turns_text us) ≡ None) × (turns_of (words (turns_text us)) ≡ us)

-- the entries of each unit are the beginning of its script
abbrev pub BeginScripts : Lists → List (List ℕ) → List Entry → Type 0
BeginScripts schema texts history = (k : ℕ) (text : List ℕ) → slice_get texts k ≡ Some text → (left : List Statement) × (map (λ e. e.statement) (entries_of (k + 1) history) ++ left ≡ script schema text)

-- every entry is of a unit that has a script
abbrev pub HaveScripts : List (List ℕ) → List Entry → Type 0
HaveScripts texts history = list_all (λ e. nat_le 1 e.unit && nat_le e.unit (length texts)) history ≡ true

-- the line that stands beside an answer says the statement that was answered
abbrev pub EchoedLinesSayTheirStatements : Type 0
EchoedLinesSayTheirStatements =
    (schema : Lists) (texts : List (List ℕ)) (history : List Entry) → BeginScripts schema texts history → HaveScripts texts history
    → map (line_statement schema) (lines_beside (map statement_lines texts) [] history) ≡ map (λ e. Some e.statement) history

-- a line without a fault after a script of whole lines: the script is accepted still, and says what it said and the line's statement
abbrev pub LineBehindScriptIsRead : Type 0
LineBehindScriptIsRead =
    (schema : Lists) (text line : List ℕ) → closes true text ≡ true → length text + length line < SCRIPT_BYTES → script_text.refusal schema text ≡ None
    → first (line_faults schema (length (script schema text)) (trimmed line)) ≡ None
    → (script_text.refusal schema (text ++ line ++ 10 ∷ []) ≡ None) × (script schema (text ++ line ++ 10 ∷ []) ≡ script schema text ++ prepend (line_statement schema (trimmed line)) [])
    × (closes true (text ++ line ++ 10 ∷ []) ≡ true)
