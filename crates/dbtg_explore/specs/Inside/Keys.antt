-- Programs as numbers, which tell apart what counts of them.
-- f is the number of a field.
use Rattle.std.specs.Prelude.{ℕ, ◌+◌, ◌&&◌, Bool, true, false, List, [], ◌∷◌, ◌++◌, if◌then◌else◌, length, map, option_map, slice_get, unwrap_or}
use Rattle.std.specs.List.{range_with_len}
use Rattle.dbtg_cells.specs.declared.key.Value.{Value}
use Rattle.dbtg_program.specs.declared.program.End.{End}
use Rattle.dbtg_program.specs.declared.program.End.TheVariants.{Stop, Assert, Size, Astray}
use Rattle.dbtg_program.specs.declared.program.Program.{Program}
use Rattle.dbtg_program.specs.Going.{Due, due, ended}
use Rattle.dbtg_step.specs.Machine.SequentialDatabase.{unit_at}
use Rattle.dbtg_going.specs.Texts.{count_items}
use Rattle.dbtg_states.specs.Spelling.{value_numbers}
use Rattle.dbtg_explore.specs.Counted.{reads}

-- for each item of a program, whether some sentence reads it
abbrev pub items_read : Program → List Bool
items_read program = map (reads program) (range_with_len 0 (count_items program))

-- the same of the program of unit u
abbrev pub items_read_by : List Program → ℕ → List Bool
items_read_by programs u = unwrap_or (option_map items_read (unit_at programs u)) []

-- a field counts, by what is known of the items: of a program that goes on those that are read, and what stands behind them, a counter
abbrev pub counts_by : Bool → List Bool → ℕ → Bool
counts_by goes read f = unwrap_or (option_map (λ b. goes && b) (slice_get read f)) true

-- those of these values that count, which are of the fields from f on
abbrev pub numbers_from : (ℕ → Bool) → ℕ → List Value → List ℕ
numbers_from count f [] = []
numbers_from count f (v ∷ vs) = (if count f then value_numbers v else []) ++ numbers_from count (f + 1) vs

-- how many values there are, and those that count
abbrev pub counted_numbers : (ℕ → Bool) → List Value → List ℕ
counted_numbers count vs = length vs ∷ numbers_from count 0 vs

-- for an end its kind and its line
abbrev pub how_numbers : End → List ℕ
how_numbers Stop = 1 ∷ 0 ∷ []
how_numbers (Assert line) = 2 ∷ line ∷ []
how_numbers (Size line) = 3 ∷ line ∷ []
how_numbers (Astray line) = 4 ∷ line ∷ []

-- for a program how it stands, and its values that count. For a due statement a 0 and its sentence, which with the values determine it
abbrev pub due_numbers : List Bool → Due → List ℕ
due_numbers read (due state s) = 0 ∷ state.at ∷ counted_numbers (counts_by true read) state.values
due_numbers read (ended state how) = how_numbers how ++ counted_numbers (counts_by false read) state.values
