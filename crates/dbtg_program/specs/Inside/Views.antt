-- The spec-level view of values, words and steps: the code's values without their references.
use Rattle.std.specs.Prelude.{◌≡◌, ℕ, ◌<◌, Bool, List, [], decimal, length}
use Rattle.dbtg_cells.specs.declared.key.Value.{Value}
use Rattle.dbtg_cells.specs.declared.key.Value.TheVariants.{Num, Text}
use Rattle.dbtg_script.specs.Tokens as words
use Rattle.dbtg_script.specs.Tokens.{Token}
use Rattle.dbtg_program.specs.declared.borrowed.Borrowed.{Borrowed}
use Rattle.dbtg_program.specs.declared.borrowed.Borrowed.TheVariants as borrowed
use Rattle.dbtg_program.specs.declared.cutting.Holding as cutting
use Rattle.dbtg_program.specs.declared.going.Progress.{Progress}
use Rattle.dbtg_program.specs.declared.going.Progress.TheVariants as progress
use Rattle.dbtg_program.specs.declared.marking.Marked.{Marked}
use Rattle.dbtg_program.specs.declared.program.Program.{Program}
use Rattle.dbtg_program.specs.declared.program.Word.{Word}
use Rattle.dbtg_program.specs.declared.program.Word.TheVariants as word
use Rattle.dbtg_program.specs.Sentences.{Holding, cut}
use Rattle.dbtg_program.specs.Conditions.{field_value}
use Rattle.dbtg_program.specs.States.{ProgramState}
use Rattle.dbtg_program.specs.Going.{Step, ends, goes, makes}

-- a value that is borrowed
abbrev pub view : Borrowed → Value
view (borrowed.Number n) = Num n
view (borrowed.Text t) = Text t.now

-- a step of the code, which leaves the program in this state
abbrev pub view_step : ProgramState → Progress → Step
view_step state progress.Goes = goes state
view_step state (progress.Makes s) = makes s
view_step state (progress.Ends e) = ends e

-- a step that does not go on leaves the state as it was
abbrev pub Stays : ProgramState → ProgramState → Progress → Type 0
Stays old new progress.Goes = Unit {0}
Stays old new (progress.Makes s) = new ≡ old
Stays old new (progress.Ends e) = new ≡ old

-- if a statement is made there was a sentence
abbrev pub Stood : Program → ProgramState → Progress → Type 0
Stood program state progress.Goes = Unit {0}
Stood program state (progress.Makes s) = state.at < length program.lines
Stood program state (progress.Ends e) = Unit {0}

-- the digits of a number; none for a text
abbrev pub digits : Value → List ℕ
digits (Num n) = decimal n
digits (Text t) = []

-- the digits of the number that a word stands for, if it is a field that has one
abbrev pub digits_of : ProgramState → Word → List ℕ
digits_of state (word.Plain t) = []
digits_of state word.Equals = []
digits_of state (word.Literal t) = []
digits_of state (word.Field f) = digits (field_value state f)

-- a line of the code that holds a sentence, cut into words
abbrev pub view_holding : cutting.Holding → Holding
view_holding h = cut h.number h.line.now

-- a word of a statement, and whether it is a field word
abbrev pub view_marked : Marked → Token × Bool
view_marked m = (words.view m.token, m.is_field)
