-- What `check` prints of programs, and which fault it reports.
use Rattle.std.specs.Prelude.{ℕ, ◌≡◌, ◌+◌, List, [], ◌∷◌, ◌++◌, ◌⊎◌, codes, decimal, length, map}
use Rattle.dbtg_schema.specs.Lists.{Lists}
use Rattle.dbtg_script.specs.Printing.Texts.{schema_line}
use Rattle.dbtg_program.specs.declared.program.Program.{Program}
use Rattle.dbtg_program.specs.Reading.{program}
use Rattle.dbtg_command.specs.declared.fault.Fault.{Fault}
use Rattle.dbtg_command.specs.declared.place.TextPlace.{TextPlace}
use Rattle.dbtg_command.specs.Sources.{ReadSchema, ToldOfSchema}
use Rattle.dbtg_running.specs.Reading.{ReadPrograms, ToldOfPrograms}

-- how many sentences the program with this number has
abbrev pub program_line : ℕ → Program → List ℕ
program_line n program = codes "program " ++ decimal n ++ codes ": " ++ decimal (length program.lines) ++ codes " sentences" ++ 10 ∷ []

-- a line for each program, from number n on
abbrev pub program_lines : ℕ → List Program → List ℕ
program_lines n [] = []
program_lines n (p ∷ ps) = program_line n p ++ program_lines (n + 1) ps

-- nothing is refused, and the text says how large the schema and the programs are whose texts are held
pub record ChecksPrograms (holds : TextPlace → List ℕ → Type 0) (count : ℕ) (out : List ℕ) : Type 0 where
  pub lists : Lists
  pub schema : ReadSchema holds lists
  pub programs : ReadPrograms holds lists count
  pub is_text : out ≡ schema_line lists ++ program_lines 1 (map (program lists) programs.texts)

-- the fault is reported for the schema, or the schema is held and accepted and it is reported for a program
abbrev pub ToldOfCheck : (TextPlace → List ℕ → Type 0) → (TextPlace → Fault → Type 0) → Fault → ℕ → Type 0
ToldOfCheck holds fails fault count = ToldOfSchema holds fails fault ⊎ ((lists : Lists) × ReadSchema holds lists × ToldOfPrograms holds fails fault lists count)
