-- The program reports a refusal of memory for a text only where the reader may.
use Rattle.std.proofs.Common.{◌≡◌, ℕ, ◌<◌, List, length, Option, Some, None, inr, refl, true, arith}
use Rattle.std.specs.Prelude.{nat_lt}
use Rattle.std.proofs.lemmas.Bool.Decides.{nat_tests}
use Rattle.dbtg_schema.specs.Lists.{Lists}
use Rattle.dbtg_schema.specs.Lookups.{first}
use Rattle.dbtg_schema.specs.Texts.Reading.{RefusedAtOnce as SchemaRefusedAtOnce, Refuses as SchemaRefuses}
use Rattle.dbtg_schema.specs.Texts.SchemaFaults.{refusal as schema_refusal}
use Rattle.dbtg_schema.specs.declared.fault.Cause.TheVariants.{TextTooLong}
use Rattle.dbtg_schema.specs.declared.fault.SchemaFault.{SchemaFault}
use Rattle.dbtg_schema.specs.declared.fault.SchemaFault.TheVariants as schema
use Rattle.dbtg_script.specs.Moves.{RefusedAtOnce, Refuses as MovesRefuses, refusal as moves_refusal, spelled_move, spelled_turn}
use Rattle.dbtg_script.specs.Reading.{RefusesScript as ScriptRefuses, script_faults_at_once}
use Rattle.dbtg_script.specs.StatementFaults.{refusal as script_refusal}
use Rattle.dbtg_script.specs.Turns.{RefusesTurns as TurnsRefuses, turns_refusal}
use Rattle.dbtg_script.specs.declared.fault.Cause.TheVariants.{TooMuch}
use Rattle.dbtg_script.specs.declared.fault.Fault.{Fault as SeenFault}
use Rattle.dbtg_script.specs.declared.fault.ScriptFault.{ScriptFault}
use Rattle.dbtg_script.specs.declared.fault.ScriptFault.TheVariants as script
use Rattle.dbtg_script.specs.declared.moves.MovesCause.TheVariants.{NotAMove}
use Rattle.dbtg_script.specs.declared.moves.MovesFault.{MovesFault}
use Rattle.dbtg_script.specs.declared.moves.MovesFault.TheVariants as moves
use Rattle.dbtg_script.specs.declared.turns.TurnsFault.{TurnsFault}
use Rattle.dbtg_script.specs.declared.turns.TurnsFault.TheVariants as turns
use Rattle.dbtg_script.specs.declared.limits.TheConstants.{SCRIPT_BYTES}
use Rattle.dbtg_program.specs.Faults.{refusal as program_refusal, too_long}
use Rattle.dbtg_program.specs.Reading.{RefusesProgram as ProgramRefuses}
use Rattle.dbtg_program.specs.declared.fault.Fault.{Fault as SeenProgramFault}
use Rattle.dbtg_program.specs.declared.fault.ProgramCause.TheVariants.{AsInScript}
use Rattle.dbtg_program.specs.declared.fault.ProgramFault.{ProgramFault}
use Rattle.dbtg_program.specs.declared.fault.ProgramFault.TheVariants as program
use Rattle.dbtg_trace.specs.Faults.{refusal as trace_refusal}
use Rattle.dbtg_trace.specs.Reading.{RefusesTrace as TraceRefuses, faults_at_once as trace_faults_at_once}
use Rattle.dbtg_trace.specs.declared.fault.Fault.{Fault as SeenTraceFault}
use Rattle.dbtg_trace.specs.declared.fault.TraceFault.{TraceFault}
use Rattle.dbtg_trace.specs.declared.fault.TraceFault.TheVariants as trace
use Rattle.dbtg_command.specs.Refusals.{RefusesMovesText, RefusesProgramText, RefusesSchemaText, RefusesScriptText, RefusesTraceText, RefusesTurnsText}
use Rattle.dbtg_command.specs.Telling.{moves_fault, program_fault, schema_fault, script_fault, trace_fault, turns_fault}

-- nothing was seen if it would have been told
unseen : {A : Type 0} (seen : Option A) → ((f : A) → seen ≡ Some f → ⊥) → seen ≡ None
unseen None told = refl
unseen (Some f) told = absurd (told f refl)

pub schema_told : (text : List ℕ) (fault : SchemaFault) → SchemaRefuses fault (schema_refusal text) → (65536 < length text → fault ≡ schema.Refused 1 TextTooLong) → SchemaRefusedAtOnce text (fault ≡ schema.Memory → ⊥)
    → RefusesSchemaText (schema_fault fault) text
schema_told text (schema.Refused line cause) refused long at_once = (refused, λ is. cc (is))
schema_told text schema.Memory refused long at_once =
    let not_long : 65536 < length text → ⊥ = λ h. cc (long h) in
    (tt, λ is. inr (omega (arith, not_long), λ w ws fault words told. at_once w ws fault words told refl))

pub script_told : (n : ℕ) (lists : Lists) (text : List ℕ) (fault : ScriptFault) → ScriptRefuses fault (script_refusal lists text) → ((f : SeenFault) → first (script_faults_at_once lists text) ≡ Some f → fault ≡ script.Refused f.line f.cause)
    → RefusesScriptText (script_fault n fault) n lists text
script_told n lists text (script.Refused line cause) refused at_once = ((refl, refused), λ is. cc (is))
script_told n lists text script.Memory refused at_once = (tt, λ is. inr (unseen (first (script_faults_at_once lists text)) (λ f seen. let no = at_once f seen in cc (no))))

pub program_told : (n : ℕ) (lists : Lists) (text : List ℕ) (fault : ProgramFault) → ProgramRefuses fault (program_refusal lists text)
    → ((f : SeenProgramFault) → first (too_long text) ≡ Some f → fault ≡ program.Refused f.line f.cause)
    → RefusesProgramText (program_fault n fault) n lists text
program_told n lists text (program.Refused line cause) refused at_once = ((refl, refused), λ is. cc (is))
program_told n lists text program.Memory refused at_once =
    let not_long : SCRIPT_BYTES < length text → ⊥ = λ h. let no = at_once (record { line = 1; cause = AsInScript TooMuch }) (long text h) in cc (no) in
    (tt, λ is. inr (omega (arith, not_long)))
  where
    long : (text : List ℕ) → SCRIPT_BYTES < length text → first (too_long text) ≡ Some (record { line = 1; cause = AsInScript TooMuch })
    long text h = let e : nat_lt SCRIPT_BYTES (length text) ≡ true = grind (arith, nat_tests) in rw e refl

pub trace_told : (lists : Lists) (units : ℕ) (text : List ℕ) (fault : TraceFault) → TraceRefuses fault (trace_refusal lists units text)
    → ((f : SeenTraceFault) → first (trace_faults_at_once lists units text) ≡ Some f → fault ≡ trace.Refused f.line f.cause)
    → RefusesTraceText (trace_fault fault) lists units text
trace_told lists units text (trace.Refused line cause) refused at_once = (refused, λ is. cc (is))
trace_told lists units text trace.Memory refused at_once = (tt, λ is. inr (unseen (first (trace_faults_at_once lists units text)) (λ f seen. let no = at_once f seen in cc (no))))

pub moves_told : (text : List ℕ) (fault : MovesFault) → MovesRefuses fault (moves_refusal text) → RefusedAtOnce spelled_move text (fault ≡ moves.Refused 1 NotAMove) → RefusesMovesText (moves_fault fault) text
moves_told text (moves.Refused word cause) refused at_once = (refused, λ is. cc (is))
moves_told text moves.Memory refused at_once = (tt, λ is. inr (λ w ws words told. let no = at_once w ws words told in cc (no)))

pub turns_told : (text : List ℕ) (fault : TurnsFault) → TurnsRefuses fault (turns_refusal text) → RefusedAtOnce spelled_turn text (fault ≡ turns.Refused 1 NotAMove) → RefusesTurnsText (turns_fault fault) text
turns_told text (turns.Refused word cause) refused at_once = (refused, λ is. cc (is))
turns_told text turns.Memory refused at_once = (tt, λ is. inr (λ w ws words told. let no = at_once w ws words told in cc (no)))
