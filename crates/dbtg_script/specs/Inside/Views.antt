-- The spec-level view of labelled words: the code's values without their references.
use Rattle.std.specs.Prelude.{List, map}
use Rattle.dbtg_script.specs.declared.queries.Labelled as code
use Rattle.dbtg_script.specs.Tokens.{view}
use Rattle.dbtg_script.specs.StatementGrammar.{Labelled}

-- a word and its role
abbrev pub view_labelled : code.Labelled → Labelled
view_labelled w = record { role = w.role; word = view w.token }

-- the words of a line, with their roles
abbrev pub views : List code.Labelled → List Labelled
views ws = map view_labelled ws
