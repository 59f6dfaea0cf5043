-- What is printed of a run of programs: what is printed of every run, followed by a line for each program.
-- u is the number of a unit.
use Rattle.std.specs.Prelude.{ℕ, ◌+◌, List, [], ◌∷◌, ◌++◌, codes, decimal, drop, filter, length}
use Rattle.dbtg_schema.specs.Lists.{Lists}
use Rattle.dbtg_script.specs.Printing.Spelling.{has_byte}
use Rattle.dbtg_script.specs.Printing.Texts.{items_text, run_text}
use Rattle.dbtg_program.specs.declared.program.End.{End}
use Rattle.dbtg_program.specs.declared.program.End.TheVariants.{Stop, Assert, Size, Astray}
use Rattle.dbtg_program.specs.declared.program.Program.{Program}
use Rattle.dbtg_going.specs.declared.member.Standing.{Standing}
use Rattle.dbtg_going.specs.declared.member.Standing.TheVariants.{Ended, Spent, GoesOn}
use Rattle.dbtg_going.specs.declared.member.Reached.{Reached}
use Rattle.dbtg_going.specs.declared.going.ProgramRun.{ProgramRun}

-- how a program ended, and in which line
abbrev pub end_text : End → List ℕ
end_text Stop = codes "STOP"
end_text (Assert line) = codes "ASSERT line " ++ decimal line
end_text (Size line) = codes "SIZE line " ++ decimal line
end_text (Astray line) = codes "ASTRAY line " ++ decimal line

-- whether it has ended, is spent, or goes on
abbrev pub standing_text : Standing → List ℕ
standing_text (Ended how) = end_text how
standing_text Spent = codes "SPENT"
standing_text GoesOn = codes "GOES ON"

-- how many fields of a program are items of records, whose names have a period; its counters follow them
abbrev pub count_items : Program → ℕ
count_items program = length (filter (λ f. has_byte 46 f.name) program.fields)

-- the line of a program: its unit, how it stands, and its counters as items are printed
abbrev pub program_text : ℕ → Program → Reached → List ℕ
program_text u program r =
    codes "PROGRAM " ++ decimal u ++ 32 ∷ standing_text r.standing ++ items_text (drop (count_items program) r.state.values) (drop (count_items program) program.fields) ++ 10 ∷ []

-- a line each, from unit u on
abbrev pub programs_text : ℕ → List Program → List Reached → List ℕ
programs_text u [] rs = []
programs_text u (p ∷ ps) [] = []
programs_text u (p ∷ ps) (r ∷ rs) = program_text u p r ++ programs_text (u + 1) ps rs

-- answers, image and units, and then the programs
abbrev pub given_text : Lists → List Program → ProgramRun → List ℕ
given_text schema programs given =
    run_text schema given.run.history given.run.image.records given.run.image.lists given.run.image.next given.run.image.usage given.run.units
    ++ programs_text 1 programs given.programs
