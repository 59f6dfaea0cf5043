-- The word of a line that its first fault is about.
use Rattle.std.specs.Prelude.{ℕ, false, List, [], ◌∷◌, ◌++◌, Option, Some, None, is_none, option_and_then, if◌then◌else◌}
use Rattle.dbtg_schema.specs.Lists.{Lists}
use Rattle.dbtg_schema.specs.Lookups.{first}
use Rattle.dbtg_schema.specs.Texts.Forms.{starts, may_end, start_with, by_start, labelled}
use Rattle.dbtg_script.specs.declared.fault.Cause.{Cause}
use Rattle.dbtg_script.specs.declared.fault.Cause.TheVariants as cause
use Rattle.dbtg_script.specs.declared.role.Role.{Role}
use Rattle.dbtg_script.specs.declared.role.Role.TheVariants as role
use Rattle.dbtg_script.specs.Labels.{first_word}
use Rattle.dbtg_script.specs.Lines.{ends_in_text}
use Rattle.dbtg_script.specs.StatementFaults.{end_faults, said}
use Rattle.dbtg_script.specs.StatementGrammar.{fits, Form, Labelled, statement}
use Rattle.dbtg_script.specs.Tokens.{Token, tokens}

-- the word that a fault at this word is about: this one, but for AREA, RECORD or SET the name before it, whose kind it says
abbrev pub about : List Labelled → Token → Role → Option Token
about ws t role.KindArea = first_word role.Name ws
about ws t role.KindRecord = first_word role.Name ws
about ws t role.KindSet = first_word role.Name ws
about ws t role.RecordWord = first_word role.RecordName ws
about ws t _ = Some t

-- the word that a fault of a statement as a whole is about, if it is about one
abbrev pub about_end : List Labelled → Cause → Option Token
about_end ws cause.NotThere = first_word role.RecordName ws
about_end ws cause.NotThisWay = None
about_end ws _ = first_word role.SortedValue ws

-- the word that the first fault from here on is about; none if the line ends too early
abbrev pub faulty_from : Lists → List Labelled → Form → List Token → Option Token
faulty_from schema ws wanted [] = if may_end wanted then option_and_then (about_end ws) (first (end_faults schema ws)) else None
faulty_from schema ws wanted (t ∷ rest) =
    by_start (start_with fits t (starts wanted))
    (λ s. if is_none (first (said schema ws t s.role)) then faulty_from schema (ws ++ labelled s.role t ∷ []) s.rest rest else about ws t s.role) (Some t)

-- the word that the first fault of a statement's line is about; none if a text is not closed
abbrev pub faulty_word : Lists → List ℕ → Option Token
faulty_word schema line = if ends_in_text false line then None else faulty_from schema [] statement (tokens false line)
