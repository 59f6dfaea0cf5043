-- A script as a program.
use Rattle.std.specs.Prelude.{List, [], map}
use Rattle.dbtg_unit.specs.declared.statement.Statement as said
use Rattle.dbtg_program.specs.declared.program.Line.{Line}
use Rattle.dbtg_program.specs.declared.program.Program.{Program}
use Rattle.dbtg_program.specs.declared.program.Sentence.TheVariants.{Statement}

-- a sentence with this statement; it stands in no line
abbrev pub line_with : said.Statement → Line
line_with s = record { number = 0; sentence = Statement s }

-- its statements, one after another, and no field
abbrev pub of_script : List said.Statement → Program
of_script script = record { lines = map line_with script; fields = []; records = [] }
