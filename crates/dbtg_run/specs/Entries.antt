-- An entry of a history.
use Rattle.std.specs.Prelude.{ℕ}
use Rattle.dbtg_unit.specs.declared.statement.Statement.{Statement}
use Rattle.dbtg_unit.specs.declared.unit.Answer.{Answer}
use Rattle.dbtg_unit.specs.declared.unit.Entry.{Entry}

-- WHAT EACH STEP TELLS

-- ticket t: unit u, statement x, answer a
abbrev pub entry : ℕ → ℕ → Statement → Answer → Entry
entry t u x a = record { ticket = t; unit = u; statement = x; answer = a }
