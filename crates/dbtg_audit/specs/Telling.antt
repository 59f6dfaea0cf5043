-- What is printed of a trace that differs.
use Rattle.std.specs.Prelude.{ℕ, List, [], ◌∷◌, ◌++◌, codes, decimal}
use Rattle.dbtg_schema.specs.Lists.{Lists}
use Rattle.dbtg_unit.specs.declared.unit.Entry.{Entry}
use Rattle.dbtg_unit.specs.Database.Statements.Codes.{status_code}
use Rattle.dbtg_script.specs.Printing.Texts.{answered_text}
use Rattle.dbtg_trace.specs.declared.traced.Said.{Said}

-- the line of the trace, and what it says of the answer
abbrev pub said_text : Lists → ℕ → Said → List ℕ
said_text schema line said = codes "trace differs line " ++ decimal line ++ codes ": said " ++ answered_text schema said.status said.key said.items

-- the answer
abbrev pub is_text : Lists → Entry → List ℕ
is_text schema e = codes ", is " ++ answered_text schema (status_code e.statement e.answer.status) e.answer.key e.answer.items ++ 10 ∷ []

abbrev pub difference_text : Lists → ℕ → Said → Entry → List ℕ
difference_text schema line said e = said_text schema line said ++ is_text schema e
