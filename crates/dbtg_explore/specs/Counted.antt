-- What counts of a program: all that it can still come to, and all that is printed of it, depends on nothing else of its state.
-- f is the number of a field.
use Rattle.std.specs.Prelude.{ℕ, ◌+◌, ◌==◌, ◌||◌, Bool, false, List, [], ◌∷◌, if◌then◌else◌, nat_le}
use Rattle.std.specs.List.{list_any}
use Rattle.dbtg_cells.specs.declared.key.Value.{Value}
use Rattle.dbtg_cells.specs.declared.key.Value.TheVariants.{Num}
use Rattle.dbtg_program.specs.declared.program.Operand.{Operand}
use Rattle.dbtg_program.specs.declared.program.Operand.TheVariants.{Literal, Field}
use Rattle.dbtg_program.specs.declared.program.Condition.{Condition}
use Rattle.dbtg_program.specs.declared.program.Condition.TheVariants.{Compare, Status}
use Rattle.dbtg_program.specs.declared.program.Word.{Word}
use Rattle.dbtg_program.specs.declared.program.Word.TheVariants as word
use Rattle.dbtg_program.specs.declared.program.Sentence.{Sentence}
use Rattle.dbtg_program.specs.declared.program.Sentence.TheVariants.{Filled, Move, Add, Subtract, If, Assert}
use Rattle.dbtg_program.specs.declared.program.Program.{Program}
use Rattle.dbtg_program.specs.Going.{Due, due, ended}
use Rattle.dbtg_going.specs.Texts.{count_items}

-- WHICH FIELDS COUNT

-- the operand is the field
abbrev pub is_field : ℕ → Operand → Bool
is_field f (Literal v) = false
is_field f (Field g) = g == f

-- the question is about it
abbrev pub asks_for : ℕ → Condition → Bool
asks_for f (Compare left negated relation right) = is_field f left || is_field f right
asks_for f (Status negated code) = false

-- the word of a statement stands for it
abbrev pub stands_for : ℕ → Word → Bool
stands_for f (word.Field g) = g == f
stands_for f _ = false

-- the sentence reads it. ADD and SUBTRACT read what they change too, MOVE does not
abbrev pub is_read_by : ℕ → Sentence → Bool
is_read_by f (Filled words) = list_any (stands_for f) words
is_read_by f (Move x g) = is_field f x
is_read_by f (Add x g) = is_field f x || g == f
is_read_by f (Subtract x g) = is_field f x || g == f
is_read_by f (If condition at) = asks_for f condition
is_read_by f (Assert condition) = asks_for f condition
is_read_by f _ = false

-- some sentence of the program reads it
abbrev pub reads : Program → ℕ → Bool
reads program f = list_any (λ l. is_read_by f l.sentence) program.lines

-- it is a counter, which is printed
abbrev pub is_counter : Program → ℕ → Bool
is_counter program f = nat_le (count_items program) f

abbrev pub counts : Program → ℕ → Bool
counts program f = is_counter program f || reads program f

-- WHAT COUNTS OF A STATE

-- the values of fields from f on, with 0 for each that does not count
abbrev pub values_from : (ℕ → Bool) → ℕ → List Value → List Value
values_from count f [] = []
values_from count f (v ∷ vs) = (if count f then v else Num 0) ∷ values_from count (f + 1) vs

-- where a program is under way, and its fields that count; of one that has ended, how it has, and its counters. The status does not count:
-- the answer to the statement that is due overwrites it, before a sentence can ask for it
abbrev pub counted : Program → Due → Due
counted program (due state s) = due (record { at = state.at; values = values_from (counts program) 0 state.values; status = 0 }) s
counted program (ended state how) = ended (record { at = 0; values = values_from (is_counter program) 0 state.values; status = 0 }) how

-- the same of each program
abbrev pub counted_each : List Program → List Due → List Due
counted_each [] ds = ds
counted_each (program ∷ programs) [] = []
counted_each (program ∷ programs) (d ∷ ds) = counted program d ∷ counted_each programs ds
