-- What `explain` says: the rows of the tables, put into forms. A table has a row on each line, a row has fields separated by bars, and the
-- first field is the row's code.
use Rattle.std.specs.Prelude.{ℕ, ◌≡◌, ◌==◌, ◌&&◌, nat_le, nat_lt, ◌%◌, ◌-◌, List, [], ◌∷◌, ◌++◌, Option, Some, None, find, length, option_and_then, option_map, slice_get, unwrap_or, codes, if◌then◌else◌}
use Rattle.std.specs.List.{flat_map}
use Rattle.std.specs.Str.{bytes_eq}
use Rattle.dbtg_schema.specs.Texts.Spelling.{is_digit}
use Rattle.dbtg_script.specs.Lines.{lines}
use Rattle.dbtg_script.specs.Printing.Spelling.{in_front, is_number, number}
use Rattle.dbtg_explain.specs.declared.topic.Kind.{Kind}
use Rattle.dbtg_explain.specs.declared.topic.Kind.TheVariants as kind
use Rattle.dbtg_explain.specs.declared.topic.Topic.{Topic}
use Rattle.dbtg_explain.specs.declared.topic.Topic.TheVariants.{All, Done, Faults, There, Status, Fault}
use Rattle.dbtg_explain.specs.declared.topic.TheConstants.{DONE, STATUS, THERE, OF_SCRIPTS, FAULT}
use Rattle.dbtg_explain.specs.declared.causes.TheConstants.{CAUSES}
use Rattle.dbtg_explain.specs.declared.idms.TheConstants.{STATUSES_THERE}
use Rattle.dbtg_explain.specs.declared.statuses.TheConstants.{STATUSES}
use Rattle.dbtg_explain.specs.declared.faults.TheConstants.{SCHEMA_FAULTS, SCRIPT_FAULTS, PROGRAM_FAULTS, MOVES_FAULTS, TURNS_FAULTS, TRACE_FAULTS}
use Rattle.dbtg_explain.specs.FaultyWord.{behind_all}

-- the code of a row
abbrev pub code_in : List ℕ → ℕ
code_in row = number (in_front 124 row)

-- the field with this number, from 0
abbrev pub field : ℕ → List ℕ → List ℕ
field n row = in_front 124 (behind_all 124 n row)

-- the first row of this code
abbrev pub row_of : ℕ → List ℕ → Option (List ℕ)
row_of code table = find (λ row. code_in row == code) (lines table)

-- the part for which a byte of a form stands
abbrev pub part_for : List (List ℕ) → ℕ → Option (List ℕ)
part_for parts b = if is_digit b then slice_get parts (b - 48) else None

-- the form, with each digit replaced by the part with that number
abbrev pub filled : List (List ℕ) → List ℕ → List ℕ
filled parts form = flat_map (λ b. unwrap_or (part_for parts b) (b ∷ [])) form

-- the faults of a kind of text
abbrev pub faults_of : Kind → List ℕ
faults_of kind.Schema = SCHEMA_FAULTS.now
faults_of kind.Script = SCRIPT_FAULTS.now
faults_of kind.Program = PROGRAM_FAULTS.now
faults_of kind.Moves = MOVES_FAULTS.now
faults_of kind.Turns = TURNS_FAULTS.now
faults_of kind.Trace = TRACE_FAULTS.now

-- the name of a kind of text, and the page that lists its faults
abbrev pub kind_row : Kind → List ℕ
kind_row kind.Schema = codes "schema|schema-language.md, Faults"
kind_row kind.Script = codes "script|scripts.md, Faults"
kind_row kind.Program = codes "program|programs.md, Faults"
kind_row kind.Moves = codes "moves|events.md, Moves"
kind_row kind.Turns = codes "turns|events.md, Turns"
kind_row kind.Trace = codes "trace|traces.md, Faults"

-- the kind of text whose faults list the one with this number: programs and traces have those of scripts too, below 14
abbrev pub kind_listing : Kind → ℕ → Kind
kind_listing kind.Schema number = kind.Schema
kind_listing kind.Script number = kind.Script
kind_listing kind.Program number = if nat_lt number 14 then kind.Script else kind.Program
kind_listing kind.Moves number = kind.Moves
kind_listing kind.Turns number = kind.Turns
kind_listing kind.Trace number = if nat_lt number 14 then kind.Script else kind.Trace

-- the field with this number of a fault's row; nothing if there is no such fault
abbrev pub fault_field : Kind → ℕ → ℕ → List ℕ
fault_field which fault n = unwrap_or (option_map (field n) (row_of fault (faults_of (kind_listing which fault)))) []

-- the rows of a status: its own, and that of its cause
abbrev pub status_rows : ℕ → Option (List ℕ × List ℕ)
status_rows code = option_and_then (λ row. option_map (λ cause. (row, cause)) (row_of (code % 100) CAUSES.now)) (row_of code STATUSES.now)

-- the topic has the rows of this status; 0 belongs to no statement
abbrev pub IsStatus : ℕ → Option Topic → Type 0
IsStatus code None = (status_rows code ≡ None) × (code ≡ 0 → ⊥)
IsStatus code (Some All) = ⊥
IsStatus code (Some Done) = code ≡ 0
IsStatus code (Some (Faults which)) = ⊥
IsStatus code (Some (There row)) = ⊥
IsStatus code (Some (Status status cause)) = (status_rows code ≡ Some (status.now, cause.now)) × (code ≡ 0 → ⊥)
IsStatus code (Some (Fault which fault)) = ⊥

-- the topic has the rows of this status, or the row of what it is in IDMS if no statement has it here
abbrev pub IsCode : ℕ → Option Topic → Type 0
IsCode code None = IsStatus code None × (row_of code STATUSES_THERE.now ≡ None)
IsCode code (Some All) = ⊥
IsCode code (Some Done) = IsStatus code (Some Done)
IsCode code (Some (Faults which)) = ⊥
IsCode code (Some (There row)) = IsStatus code None × (row_of code STATUSES_THERE.now ≡ Some row.now)
IsCode code (Some (Status status cause)) = IsStatus code (Some (Status status cause))
IsCode code (Some (Fault which fault)) = ⊥

-- the topic has the row of the fault with this number, of the kind of text that lists it
abbrev pub IsFault : Kind → ℕ → Option Topic → Type 0
IsFault which number None = row_of number (faults_of (kind_listing which number)) ≡ None
IsFault which number (Some All) = ⊥
IsFault which number (Some Done) = ⊥
IsFault which number (Some (Faults kind)) = ⊥
IsFault which number (Some (There row)) = ⊥
IsFault which number (Some (Status status cause)) = ⊥
IsFault which number (Some (Fault kind fault)) = (kind ≡ kind_listing which number) × (row_of number (faults_of (kind_listing which number)) ≡ Some fault.now)

-- the kind that a word says
abbrev pub kind_in : List ℕ → Option Kind
kind_in word =
    if bytes_eq word (codes "schema") then Some kind.Schema
    else if bytes_eq word (codes "script") then Some kind.Script
    else if bytes_eq word (codes "program") then Some kind.Program
    else if bytes_eq word (codes "moves") then Some kind.Moves
    else if bytes_eq word (codes "turns") then Some kind.Turns
    else if bytes_eq word (codes "trace") then Some kind.Trace
    else None

-- the number that digits say, up to a greatest one
abbrev pub number_in : ℕ → List ℕ → Option ℕ
number_in most word = if is_number word && nat_le (number word) most then Some (number word) else None

-- this is true of the number and the topic; without a number there is no topic
abbrev pub WithNumber : (ℕ → Option Topic → Type 0) → Option ℕ → Option Topic → Type 0
WithNumber Is None topic = topic ≡ None
WithNumber Is (Some n) topic = Is n topic

-- the fault of a kind; without a kind there is no topic
abbrev pub IsFaultOf : Option Kind → Option ℕ → Option Topic → Type 0
IsFaultOf None number topic = topic ≡ None
IsFaultOf (Some which) number topic = WithNumber (IsFault which) number topic

-- a code of at most four digits; a longer word has no topic
abbrev pub IsCodeOf : List ℕ → Option Topic → Type 0
IsCodeOf word topic = WithNumber IsCode (if nat_le (length word) 4 then number_in 9999 word else None) topic

-- the faults of a kind; without a kind the word is a code
abbrev pub IsKindOr : Option Kind → (Option Topic → Type 0) → Option Topic → Type 0
IsKindOr None Is topic = Is topic
IsKindOr (Some which) Is topic = topic ≡ Some (Faults which)

abbrev pub IsAskedBy : List ℕ → Option Topic → Type 0
IsAskedBy word topic = IsKindOr (kind_in word) (IsCodeOf word) topic

-- a word asks for a status or for the faults of a kind, a kind and a number for a fault, and no word for all
abbrev pub IsAsked : List (List ℕ) → Option Topic → Type 0
IsAsked [] topic = topic ≡ Some All
IsAsked (word ∷ []) topic = IsAskedBy word topic
IsAsked (which ∷ number ∷ []) topic = IsFaultOf (kind_in which) (number_in 99 number) topic
IsAsked (a ∷ b ∷ c ∷ rest) topic = topic ≡ None

-- what is said of a status, from its row and that of its cause
abbrev pub status_text : List ℕ → List ℕ → List ℕ
status_text status cause = filled (field 0 status ∷ field 1 status ∷ field 1 cause ∷ field 2 cause ∷ field 2 status ∷ field 3 cause ∷ field 0 cause ∷ []) STATUS.now

-- what is said of a status of IDMS, from its row
abbrev pub there_text : List ℕ → List ℕ
there_text row = filled (field 0 row ∷ field 1 row ∷ field 2 row ∷ []) THERE.now

-- what is said of a fault, from its kind's row and its own
abbrev pub fault_text : List ℕ → List ℕ → List ℕ
fault_text about fault = filled (field 0 about ∷ field 0 fault ∷ field 1 fault ∷ field 2 fault ∷ field 3 fault ∷ field 1 about ∷ []) FAULT.now

-- a line of the list of all: its kind, its code, and its meaning
abbrev pub line_text : List ℕ → List ℕ → List ℕ → List ℕ
line_text name code meaning = filled (name ∷ code ∷ meaning ∷ []) (codes "0 1: 2\n")

-- the cause that has the last two digits of a status
abbrev pub cause_of : List ℕ → Option (List ℕ)
cause_of status = option_and_then (λ code. row_of (code % 100) CAUSES.now) (number_in 9999 (field 0 status))

-- the line of a status, if its cause has a row
abbrev pub status_line : List ℕ → List ℕ
status_line status = unwrap_or (option_map (λ cause. line_text (field 0 status) (field 1 status) (field 1 cause)) (cause_of status)) []

-- the line of a fault of a kind
abbrev pub fault_line : Kind → List ℕ → List ℕ
fault_line which fault = line_text (field 0 (kind_row which)) (field 0 fault) (field 1 fault)

-- the lines of the faults of a kind
abbrev pub fault_table : Kind → List ℕ
fault_table which = flat_map (fault_line which) (lines (faults_of which))

-- what is said before the faults that a kind of text has in addition to those of scripts
abbrev pub faults_before : Kind → List ℕ
faults_before kind.Schema = []
faults_before kind.Script = []
faults_before kind.Program = OF_SCRIPTS.now
faults_before kind.Moves = []
faults_before kind.Turns = []
faults_before kind.Trace = OF_SCRIPTS.now

-- the faults of a kind
abbrev pub faults_text : Kind → List ℕ
faults_text which = faults_before which ++ fault_table which

-- the list of all
abbrev pub all_text : List ℕ
all_text =
    ((((((codes "0000: done\n" ++ flat_map status_line (lines STATUSES.now)) ++ fault_table kind.Schema) ++ fault_table kind.Script) ++ fault_table kind.Program) ++ fault_table kind.Moves) ++ fault_table kind.Turns)
    ++ fault_table kind.Trace

-- what is said of a topic
abbrev pub topic_text : Topic → List ℕ
topic_text All = all_text
topic_text Done = DONE.now
topic_text (Faults which) = faults_text which
topic_text (There row) = there_text row.now
topic_text (Status status cause) = status_text status.now cause.now
topic_text (Fault which fault) = fault_text (kind_row which) fault.now
