-- What the texts say that the program is given; their first fault, in the order number of scripts, schema, scripts, moves or turns;
-- and the status with which it ends. text is a text's bytes, n the number of a script, from 1.
use Rattle.std.specs.Prelude.{◌≡◌, ℕ, ◌+◌, ◌≤◌, true, false, List, [], ◌∷◌, Option, Some, None, ◌⊎◌, length}
use Rattle.dbtg_schema.specs.Texts.Forms.{labels}
use Rattle.dbtg_schema.specs.Lists.{Lists}
use Rattle.dbtg_schema.specs.Lookups.{first}
use Rattle.dbtg_schema.specs.Texts.Reading.{RefusedAtOnce as SchemaRefusedAtOnce}
use Rattle.dbtg_schema.specs.Texts.SchemaFaults.{refusal as schema_refusal}
use Rattle.dbtg_schema.specs.Texts.SchemaGrammar.{fits, schema}
use Rattle.dbtg_schema.specs.Texts.SchemaLists.{schema_of}
use Rattle.dbtg_schema.specs.Texts.Words.{text_words}
use Rattle.dbtg_schema.specs.declared.fault.Fault.{Fault as SchemaRefusal}
use Rattle.dbtg_unit.specs.declared.moves.Move.{Move}
use Rattle.dbtg_script.specs.Moves.{RefusedAtOnce, moves_of, refusal as moves_refusal, spelled_move, spelled_turn, words}
use Rattle.dbtg_script.specs.Reading.{script_faults_at_once}
use Rattle.dbtg_script.specs.StatementFaults.{refusal as script_refusal}
use Rattle.dbtg_script.specs.Turns.{turns_of, turns_refusal}
use Rattle.dbtg_script.specs.declared.limits.TheConstants.{SCRIPT_BYTES}
-- 1 to 8 scripts, one for each unit
pub use Rattle.dbtg_explain.specs.Units.{is_count}
use Rattle.dbtg_program.specs.Faults.{refusal as program_refusal}
use Rattle.dbtg_program.specs.declared.fault.Fault.{Fault as ProgramRefusal}
use Rattle.dbtg_script.specs.declared.fault.Fault.{Fault as ScriptRefusal}
use Rattle.dbtg_script.specs.declared.moves.MovesCause.{MovesCause}
use Rattle.dbtg_trace.specs.Faults.{refusal as trace_refusal}
use Rattle.dbtg_trace.specs.Reading.{faults_at_once as trace_faults_at_once}
use Rattle.dbtg_trace.specs.declared.fault.Fault.{Fault as TraceRefusal}
use Rattle.dbtg_command.specs.declared.fault.Fault.{Fault}
use Rattle.dbtg_command.specs.declared.fault.Fault.TheVariants.{Schema, Script, Moves, Turns, Trace, MovesOver, StatesOver, Unreadable, ScriptCount, Memory, Program}
use Rattle.dbtg_command.specs.declared.order.Order.{Order}
use Rattle.dbtg_command.specs.declared.order.Order.TheVariants as by

-- the schema that a text says
abbrev pub schema_in : List ℕ → Lists
schema_in text = schema_of (labels fits schema (text_words text))

-- the moves that a text says
abbrev pub moves_in : List ℕ → List Move
moves_in text = moves_of (words text)

-- the turns that a text says
abbrev pub turns_in : List ℕ → List ℕ
turns_in text = turns_of (words text)

-- the fault is this refusal of a schema, unless memory ran out
abbrev pub RefusesSchema : Fault → Option SchemaRefusal → Type 0
RefusesSchema Memory refusal = Unit {0}
RefusesSchema (Schema line cause) refusal = refusal ≡ Some (record { line = line; cause = cause })
RefusesSchema (Script n line cause) refusal = ⊥
RefusesSchema (Program n line cause) refusal = ⊥
RefusesSchema (Moves word cause) refusal = ⊥
RefusesSchema (Turns word cause) refusal = ⊥
RefusesSchema (Trace line cause) refusal = ⊥
RefusesSchema MovesOver refusal = ⊥
RefusesSchema (StatesOver limit) refusal = ⊥
RefusesSchema (Unreadable path) refusal = ⊥
RefusesSchema ScriptCount refusal = ⊥

-- the fault is this refusal of script n, unless memory ran out
abbrev pub RefusesScript : Fault → ℕ → Option ScriptRefusal → Type 0
RefusesScript Memory n refusal = Unit {0}
RefusesScript (Script m line cause) n refusal = (m ≡ n) × (refusal ≡ Some (record { line = line; cause = cause }))
RefusesScript (Schema line cause) n refusal = ⊥
RefusesScript (Program m line cause) n refusal = ⊥
RefusesScript (Moves word cause) n refusal = ⊥
RefusesScript (Turns word cause) n refusal = ⊥
RefusesScript (Trace line cause) n refusal = ⊥
RefusesScript MovesOver n refusal = ⊥
RefusesScript (StatesOver limit) n refusal = ⊥
RefusesScript (Unreadable path) n refusal = ⊥
RefusesScript ScriptCount n refusal = ⊥

-- the fault is this refusal of program n, unless memory ran out
abbrev pub RefusesProgram : Fault → ℕ → Option ProgramRefusal → Type 0
RefusesProgram Memory n refusal = Unit {0}
RefusesProgram (Program m line cause) n refusal = (m ≡ n) × (refusal ≡ Some (record { line = line; cause = cause }))
RefusesProgram (Schema line cause) n refusal = ⊥
RefusesProgram (Script m line cause) n refusal = ⊥
RefusesProgram (Moves word cause) n refusal = ⊥
RefusesProgram (Turns word cause) n refusal = ⊥
RefusesProgram (Trace line cause) n refusal = ⊥
RefusesProgram MovesOver n refusal = ⊥
RefusesProgram (StatesOver limit) n refusal = ⊥
RefusesProgram (Unreadable path) n refusal = ⊥
RefusesProgram ScriptCount n refusal = ⊥

-- the fault is this refusal of moves, unless memory ran out
abbrev pub RefusesMoves : Fault → Option (ℕ × MovesCause) → Type 0
RefusesMoves Memory refusal = Unit {0}
RefusesMoves (Moves word cause) refusal = refusal ≡ Some (word, cause)
RefusesMoves (Schema line cause) refusal = ⊥
RefusesMoves (Script n line cause) refusal = ⊥
RefusesMoves (Program n line cause) refusal = ⊥
RefusesMoves (Turns word cause) refusal = ⊥
RefusesMoves (Trace line cause) refusal = ⊥
RefusesMoves MovesOver refusal = ⊥
RefusesMoves (StatesOver limit) refusal = ⊥
RefusesMoves (Unreadable path) refusal = ⊥
RefusesMoves ScriptCount refusal = ⊥

-- the fault is this refusal of turns, unless memory ran out
abbrev pub RefusesTurns : Fault → Option (ℕ × MovesCause) → Type 0
RefusesTurns Memory refusal = Unit {0}
RefusesTurns (Turns word cause) refusal = refusal ≡ Some (word, cause)
RefusesTurns (Schema line cause) refusal = ⊥
RefusesTurns (Script n line cause) refusal = ⊥
RefusesTurns (Program n line cause) refusal = ⊥
RefusesTurns (Moves word cause) refusal = ⊥
RefusesTurns (Trace line cause) refusal = ⊥
RefusesTurns MovesOver refusal = ⊥
RefusesTurns (StatesOver limit) refusal = ⊥
RefusesTurns (Unreadable path) refusal = ⊥
RefusesTurns ScriptCount refusal = ⊥

-- the text of a schema is accepted; or it is not too long, and its first word is not at fault
abbrev pub SchemaMayTakeMemory : List ℕ → Type 0
SchemaMayTakeMemory text = (schema_refusal text ≡ None) ⊎ ((length text ≤ 65536) × SchemaRefusedAtOnce text ⊥)

-- a script is accepted, or no fault of it is found before a statement is kept
abbrev pub ScriptMayTakeMemory : Lists → List ℕ → Type 0
ScriptMayTakeMemory lists text = (script_refusal lists text ≡ None) ⊎ (first (script_faults_at_once lists text) ≡ None)

-- a program is accepted, or it is not too long
abbrev pub ProgramMayTakeMemory : Lists → List ℕ → Type 0
ProgramMayTakeMemory lists text = (program_refusal lists text ≡ None) ⊎ (length text ≤ SCRIPT_BYTES)

-- moves are accepted, or they do not begin with a word of another shape
abbrev pub MovesMayTakeMemory : List ℕ → Type 0
MovesMayTakeMemory text = (moves_refusal text ≡ None) ⊎ RefusedAtOnce spelled_move text ⊥

-- the same for turns
abbrev pub TurnsMayTakeMemory : List ℕ → Type 0
TurnsMayTakeMemory text = (turns_refusal text ≡ None) ⊎ RefusedAtOnce spelled_turn text ⊥

-- a trace is accepted, or no fault of it is found before a statement is kept
abbrev pub TraceMayTakeMemory : Lists → ℕ → List ℕ → Type 0
TraceMayTakeMemory lists units text = (trace_refusal lists units text ≡ None) ⊎ (first (trace_faults_at_once lists units text) ≡ None)

-- the fault is the refusal of this schema; memory ran out only if the text may take any
abbrev pub RefusesSchemaText : Fault → List ℕ → Type 0
RefusesSchemaText fault text = RefusesSchema fault (schema_refusal text) × (fault ≡ Memory → SchemaMayTakeMemory text)

-- the same for this text of script n
abbrev pub RefusesScriptText : Fault → ℕ → Lists → List ℕ → Type 0
RefusesScriptText fault n lists text = RefusesScript fault n (script_refusal lists text) × (fault ≡ Memory → ScriptMayTakeMemory lists text)

-- for this text of program n
abbrev pub RefusesProgramText : Fault → ℕ → Lists → List ℕ → Type 0
RefusesProgramText fault n lists text = RefusesProgram fault n (program_refusal lists text) × (fault ≡ Memory → ProgramMayTakeMemory lists text)

-- for these moves
abbrev pub RefusesMovesText : Fault → List ℕ → Type 0
RefusesMovesText fault text = RefusesMoves fault (moves_refusal text) × (fault ≡ Memory → MovesMayTakeMemory text)

-- for these turns
abbrev pub RefusesTurnsText : Fault → List ℕ → Type 0
RefusesTurnsText fault text = RefusesTurns fault (turns_refusal text) × (fault ≡ Memory → TurnsMayTakeMemory text)

-- the fault is this refusal of a trace, unless memory ran out
abbrev pub RefusesTrace : Fault → Option TraceRefusal → Type 0
RefusesTrace Memory refusal = Unit {0}
RefusesTrace (Trace line cause) refusal = refusal ≡ Some (record { line = line; cause = cause })
RefusesTrace (Schema line cause) refusal = ⊥
RefusesTrace (Script n line cause) refusal = ⊥
RefusesTrace (Program n line cause) refusal = ⊥
RefusesTrace (Moves word cause) refusal = ⊥
RefusesTrace (Turns word cause) refusal = ⊥
RefusesTrace MovesOver refusal = ⊥
RefusesTrace (StatesOver limit) refusal = ⊥
RefusesTrace (Unreadable path) refusal = ⊥
RefusesTrace ScriptCount refusal = ⊥

-- the fault is the refusal of this trace of so many units; memory ran out only if the text may take any
abbrev pub RefusesTraceText : Fault → Lists → ℕ → List ℕ → Type 0
RefusesTraceText fault lists units text = RefusesTrace fault (trace_refusal lists units text) × (fault ≡ Memory → TraceMayTakeMemory lists units text)

-- the fault is that of the first script that has one, from number n on, unless memory ran out
abbrev pub RefusesOneScript : Fault → Lists → ℕ → List (List ℕ) → Type 0
RefusesOneScript fault lists n [] = fault ≡ Memory
RefusesOneScript fault lists n (text ∷ texts) = RefusesScript fault n (script_refusal lists text) ⊎ ((script_refusal lists text ≡ None) × RefusesOneScript fault lists (n + 1) texts)

-- every script is accepted
abbrev pub AllAccepted : Lists → List (List ℕ) → Type 0
AllAccepted lists [] = Unit {0}
AllAccepted lists (text ∷ texts) = (script_refusal lists text ≡ None) × AllAccepted lists texts

-- schema and scripts are accepted
abbrev pub AcceptsTexts : List ℕ → List (List ℕ) → Type 0
AcceptsTexts text scripts = (schema_refusal text ≡ None) × AllAccepted (schema_in text) scripts

-- the fault is the first of schema and scripts, unless memory ran out
abbrev pub RefusesTexts : Fault → List ℕ → List (List ℕ) → Type 0
RefusesTexts fault text scripts = RefusesSchema fault (schema_refusal text) ⊎ ((schema_refusal text ≡ None) × RefusesOneScript fault (schema_in text) 1 scripts)

-- the moves or turns, if there are any, are accepted
abbrev pub AcceptsOrder : Order (List ℕ) → Type 0
AcceptsOrder by.Serial = Unit {0}
AcceptsOrder (by.Moves text) = moves_refusal text ≡ None
AcceptsOrder (by.Turns text) = turns_refusal text ≡ None

-- the fault is the first of the moves or turns, if there are any, unless memory ran out
abbrev pub RefusesOrder : Fault → Order (List ℕ) → Type 0
RefusesOrder fault by.Serial = fault ≡ Memory
RefusesOrder fault (by.Moves text) = RefusesMoves fault (moves_refusal text)
RefusesOrder fault (by.Turns text) = RefusesTurns fault (turns_refusal text)

-- a wrong number of scripts, or else the first fault of schema, scripts and moves or turns, unless memory ran out
abbrev pub RefusesReplay : Fault → List ℕ → List (List ℕ) → Order (List ℕ) → Type 0
RefusesReplay fault text scripts order =
    ((is_count (length scripts) ≡ false) × (fault ≡ ScriptCount))
    ⊎ ((is_count (length scripts) ≡ true) × (RefusesTexts fault text scripts ⊎ (AcceptsTexts text scripts × RefusesOrder fault order)))

-- the exit status: for what is read and too many moves, for a wrong number of scripts, for a refusal of memory
abbrev pub status_of : Fault → ℕ
status_of ScriptCount = 2
status_of Memory = 3
status_of _ = 1
