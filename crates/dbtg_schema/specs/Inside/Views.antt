-- The spec-level view of labelled words: the code's values without their references.
use Rattle.std.specs.Prelude.{List, map}
use Rattle.dbtg_schema.specs.declared.queries.Labelled as code
use Rattle.dbtg_schema.specs.Inside.Words.{view}
use Rattle.dbtg_schema.specs.Texts.SchemaGrammar.{Labelled}

-- a labelled word of the code, as definitions name it
abbrev pub view_labelled : code.Labelled → Labelled
view_labelled w = record { role = w.role; word = view w.word }

-- all of them
abbrev pub views : List code.Labelled → List Labelled
views ws = map view_labelled ws
