-- The refusal, as the reader reaches it from left to right.
use Rattle.std.specs.Prelude.{◌≡◌, ℕ, ◌+◌, not, ◌&&◌, nat_le, false, List, [], ◌∷◌, ◌++◌, map, Option, Some, Result, MatchResult, if◌then◌else◌}
use Rattle.dbtg_schema.specs.Lists.{Lists}
use Rattle.dbtg_schema.specs.Lookups.{first}
use Rattle.dbtg_schema.specs.Texts.Forms.{by_start, start_with, starts}
use Rattle.dbtg_script.specs.declared.fault.Cause.{Cause}
use Rattle.dbtg_script.specs.declared.fault.Cause.TheVariants as cause
use Rattle.dbtg_script.specs.declared.fault.Fault.{Fault}
use Rattle.dbtg_script.specs.declared.fault.LineFault.{LineFault}
use Rattle.dbtg_script.specs.declared.fault.LineFault.TheVariants as line
use Rattle.dbtg_script.specs.declared.fault.ScriptFault.{ScriptFault}
use Rattle.dbtg_script.specs.declared.fault.ScriptFault.TheVariants as script
use Rattle.dbtg_script.specs.Lines.{ends_in_text, is_allowed, is_statement, lines, trimmed}
use Rattle.dbtg_script.specs.Tokens.{Token, tokens}
use Rattle.dbtg_script.specs.StatementGrammar.{Form, Labelled, fits, statement}
use Rattle.dbtg_script.specs.StatementFaults.{at_other, faults_from, said, too_long, when}
use Rattle.dbtg_unit.specs.declared.limits.TheConstants.{MOST_STATEMENTS}

-- the first fault of a line from here on
unfoldable pub verdict : Lists → List Labelled → Form → List Token → Option Cause
verdict schema ws wanted left = first (faults_from schema ws wanted left)

-- the faults at the next word
abbrev pub faults_at : Lists → List Labelled → Form → Token → List Cause
faults_at schema ws wanted t = by_start (start_with fits t (starts wanted)) (λ s. said schema ws t s.role) (at_other ws ∷ [])

-- the faults at the first word of a line
abbrev pub first_word_faults : Lists → List Token → List Cause
first_word_faults schema [] = []
first_word_faults schema (t ∷ ts) = faults_at schema [] statement t

-- the faults of a line that are found before a word of it is kept
abbrev pub faults_at_once : Lists → ℕ → List ℕ → List Cause
faults_at_once schema count line =
    when (is_statement line && nat_le MOST_STATEMENTS count) cause.TooMuch ++ when (not (is_allowed line)) cause.LineNotAllowed
    ++ (if is_statement line then when (ends_in_text false line) cause.UnexpectedWord ++ first_word_faults schema (tokens false line) else [])

-- the first of these faults is reported, and not a refusal of memory
abbrev pub IsToldAtOnce : {A : Type 0} → List Cause → Result A LineFault → Type 0
IsToldAtOnce causes result = (c : Cause) → first causes ≡ Some c → MatchResult result (λ _. ⊥) (λ e. e ≡ line.Refused c)

-- the faults of lines that are found before a statement is kept; the first line has this number
abbrev pub lines_faults_at_once : Lists → ℕ → List (List ℕ) → List Fault
lines_faults_at_once schema number [] = []
lines_faults_at_once schema number (l ∷ ls) =
    map (λ c. record { line = number; cause = c }) (faults_at_once schema 0 (trimmed l)) ++ (if is_statement (trimmed l) then [] else lines_faults_at_once schema (number + 1) ls)

-- the faults of a script that are found before a statement is kept
abbrev pub script_faults_at_once : Lists → List ℕ → List Fault
script_faults_at_once schema text = too_long text ++ lines_faults_at_once schema 1 (lines text)

-- the line is refused with this fault, unless memory ran out
abbrev pub Refuses : LineFault → Option Cause → Type 0
Refuses line.Memory v = Unit {0}
Refuses (line.Refused cause) v = v ≡ Some cause

-- the script is refused with this fault, unless memory ran out
abbrev pub RefusesScript : ScriptFault → Option Fault → Type 0
RefusesScript script.Memory v = Unit {0}
RefusesScript (script.Refused line cause) v = v ≡ Some (record { line = line; cause = cause })
