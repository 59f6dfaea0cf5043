-- The spec-level view of the code's results: without their references.
use Rattle.std.specs.Prelude.{◌<◌, length}
use Rattle.dbtg_program.specs.declared.going.Due as going
use Rattle.dbtg_program.specs.declared.going.Due.TheVariants as code_due
use Rattle.dbtg_program.specs.declared.program.Program.{Program}
use Rattle.dbtg_program.specs.States.{ProgramState}
use Rattle.dbtg_program.specs.Going.{Due, due, ended}

-- a result of the code with the state in which it leaves the program
abbrev pub view_due : ProgramState → going.Due → Due
view_due state (code_due.Statement s) = due state s
view_due state (code_due.End e) = ended state e

-- if a statement is due the program is at one of its sentences
abbrev pub Stands : Program → ProgramState → going.Due → Type 0
Stands program state (code_due.Statement s) = state.at < length program.lines
Stands program state (code_due.End e) = Unit {0}
