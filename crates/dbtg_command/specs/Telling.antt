-- The program's fault for a fault that a reader reports: same line or word, and same cause. n is the number of a script or a program.
use Rattle.std.specs.Prelude.{ℕ}
use Rattle.dbtg_program.specs.declared.fault.ProgramFault.{ProgramFault}
use Rattle.dbtg_program.specs.declared.fault.ProgramFault.TheVariants as program
use Rattle.dbtg_schema.specs.declared.fault.SchemaFault.{SchemaFault}
use Rattle.dbtg_schema.specs.declared.fault.SchemaFault.TheVariants as schema
use Rattle.dbtg_script.specs.declared.fault.ScriptFault.{ScriptFault}
use Rattle.dbtg_script.specs.declared.fault.ScriptFault.TheVariants as script
use Rattle.dbtg_script.specs.declared.moves.MovesFault.{MovesFault}
use Rattle.dbtg_script.specs.declared.moves.MovesFault.TheVariants as moves
use Rattle.dbtg_script.specs.declared.turns.TurnsFault.{TurnsFault}
use Rattle.dbtg_script.specs.declared.turns.TurnsFault.TheVariants as turns
use Rattle.dbtg_trace.specs.declared.fault.TraceFault.{TraceFault}
use Rattle.dbtg_trace.specs.declared.fault.TraceFault.TheVariants as trace
use Rattle.dbtg_command.specs.declared.fault.Fault.{Fault}
use Rattle.dbtg_command.specs.declared.fault.Fault.TheVariants.{Schema, Script, Moves, Turns, Trace, Memory, Program}

-- for a schema: the line, and the cause
abbrev pub schema_fault : SchemaFault → Fault
schema_fault (schema.Refused line cause) = Schema line cause
schema_fault schema.Memory = Memory

-- for script n: the line, and the cause
abbrev pub script_fault : ℕ → ScriptFault → Fault
script_fault n (script.Refused line cause) = Script n line cause
script_fault n script.Memory = Memory

-- for program n: the line, and the cause
abbrev pub program_fault : ℕ → ProgramFault → Fault
program_fault n (program.Refused line cause) = Program n line cause
program_fault n program.Memory = Memory

-- for a moves file: the number of the word, and the cause
abbrev pub moves_fault : MovesFault → Fault
moves_fault (moves.Refused word cause) = Moves word cause
moves_fault moves.Memory = Memory

-- for a turns file: the number of the word, and the cause
abbrev pub turns_fault : TurnsFault → Fault
turns_fault (turns.Refused word cause) = Turns word cause
turns_fault turns.Memory = Memory

-- for a trace: the line, and the cause
abbrev pub trace_fault : TraceFault → Fault
trace_fault (trace.Refused line cause) = Trace line cause
trace_fault trace.Memory = Memory
