-- Words beside `Reading` that private functions and lemmas use.
use Rattle.std.specs.Prelude.{◌≡◌, ℕ, List, map, Option, Some, Result, MatchResult}
use Rattle.dbtg_schema.specs.Lists.{Lists}
use Rattle.dbtg_schema.specs.Lookups.{first}
use Rattle.dbtg_unit.specs.declared.statement.Statement.{Statement}
use Rattle.dbtg_script.specs.declared.fault.LineFault.{LineFault}
use Rattle.dbtg_script.specs.declared.fault.LineFault.TheVariants as script
use Rattle.dbtg_trace.specs.declared.fault.EntryFault.{EntryFault}
use Rattle.dbtg_trace.specs.declared.fault.EntryFault.TheVariants as entry
use Rattle.dbtg_trace.specs.declared.fault.Fault.{Fault}
use Rattle.dbtg_trace.specs.declared.fault.TraceCause.{TraceCause}
use Rattle.dbtg_trace.specs.declared.fault.TraceCause.TheVariants.{AsInScript}
use Rattle.dbtg_trace.specs.declared.fault.TraceFault.{TraceFault}
use Rattle.dbtg_trace.specs.declared.fault.TraceFault.TheVariants as trace
use Rattle.dbtg_trace.specs.declared.traced.Traced.{Traced}
use Rattle.dbtg_trace.specs.Faults.{entry_faults, line_faults, lines_faults, part_faults}

-- what was asked
abbrev pub statements_in : List Traced → List Statement
statements_in ts = map (λ t. t.statement) ts

-- the first fault of what should be a statement
unfoldable pub part_verdict : Lists → List ℕ → Option TraceCause
part_verdict schema part = first (part_faults schema part)

-- the first fault of a line that holds a statement
unfoldable pub entry_verdict : Lists → ℕ → List ℕ → Option TraceCause
entry_verdict schema units line = first (entry_faults schema units line)

-- the first fault of a line after `count` statements
unfoldable pub line_verdict : Lists → ℕ → ℕ → List ℕ → Option TraceCause
line_verdict schema units count line = first (line_faults schema units count line)

-- the first fault of lines after `count` statements; the first line has this number
unfoldable pub lines_verdict : Lists → ℕ → ℕ → ℕ → List (List ℕ) → Option Fault
lines_verdict schema units count number ls = first (lines_faults schema units count number ls)

-- refused with this fault, unless memory ran out
abbrev pub Refuses : EntryFault → Option TraceCause → Type 0
Refuses entry.Memory v = Unit {0}
Refuses (entry.Refused cause) v = v ≡ Some cause

-- the first of these faults is reported, and not a refusal of memory
abbrev pub IsToldAtOnce : {A : Type 0} → List TraceCause → Result A EntryFault → Type 0
IsToldAtOnce causes result = (c : TraceCause) → first causes ≡ Some c → MatchResult result (λ _. ⊥) (λ e. e ≡ entry.Refused c)

-- the fault of a line, with the number of the line
abbrev pub at_line : ℕ → EntryFault → TraceFault
at_line number entry.Memory = trace.Memory
at_line number (entry.Refused cause) = trace.Refused number cause

-- the fault of a part of a line, which is read as a line of a script
abbrev pub in_entry : LineFault → EntryFault
in_entry script.Memory = entry.Memory
in_entry (script.Refused cause) = entry.Refused (AsInScript cause)
