-- Which statuses a statement can have, by its verb: 0000, and those of the table.
use Rattle.std.specs.Prelude.{ℕ, ◌==◌, ◌||◌, Bool, List, [], ◌∷◌, ◌++◌, codes, if◌then◌else◌}
use Rattle.std.specs.List.{flat_map}
use Rattle.std.specs.Str.{bytes_eq}
use Rattle.dbtg_schema.specs.Lookups.{some_and}
use Rattle.dbtg_script.specs.Lines.{lines}
use Rattle.dbtg_explain.specs.declared.statuses.TheConstants.{STATUSES}
use Rattle.dbtg_explain.specs.Explaining.{field, row_of}

-- the row is of a status of this verb
abbrev pub is_of : List ℕ → List ℕ → Bool
is_of verb row = bytes_eq (field 1 row) verb

unfoldable pub can_have : List ℕ → ℕ → Bool
can_have verb code = code == 0 || some_and (is_of verb) (row_of code STATUSES.now)

-- a space and the code of the row, if the row is of this verb
abbrev pub code_of : List ℕ → List ℕ → List ℕ
code_of verb row = if is_of verb row then 32 ∷ field 0 row else []

-- the codes of all that the verb can have
unfoldable pub codes_of_verb : List ℕ → List ℕ
codes_of_verb verb = codes "0000" ++ flat_map (code_of verb) (lines STATUSES.now)
