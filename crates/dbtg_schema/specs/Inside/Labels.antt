-- A word beside `Labels` that private functions and lemmas use.
use Rattle.std.specs.Prelude.{List, [], ◌∷◌}
use Rattle.dbtg_schema.specs.declared.role.Role.{Role}
use Rattle.dbtg_schema.specs.Texts.SchemaGrammar.{Labelled}
use Rattle.dbtg_schema.specs.Texts.Labels.{until}

-- the words up to the next one with this role, the first apart
abbrev pub front_entry : Role → List Labelled → List Labelled
front_entry r [] = []
front_entry r (w ∷ ws) = w ∷ until r ws
