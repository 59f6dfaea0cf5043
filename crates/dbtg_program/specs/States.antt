-- The state of a program.
use Rattle.std.specs.Prelude.{ℕ, List, map}
use Rattle.dbtg_schema.specs.declared.shape.Item.{Item}
use Rattle.dbtg_cells.specs.declared.key.Value.{Value}
use Rattle.dbtg_program.specs.declared.program.Program.{Program}
use Rattle.dbtg_program.specs.Values.{empty_value}

-- the number of the program's next sentence, from 0; the value of each field; the status of its last statement, 0 before the first
pub record ProgramState : Type 0 where
  pub at : ℕ
  pub values : List Value
  pub status : ℕ

-- the state before any sentence of a program with these fields
abbrev pub beginning_with : List Item → ProgramState
beginning_with fields = record { at = 0; values = map (λ f. empty_value f.picture) fields; status = 0 }

-- the state before any sentence
abbrev pub beginning : Program → ProgramState
beginning program = beginning_with program.fields
