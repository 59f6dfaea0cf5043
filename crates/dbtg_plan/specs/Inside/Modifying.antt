-- Set by set, what MODIFY asks of the held cells.
-- k is a key, s a set, t a record type, items what the record has after the changes.
use Rattle.std.specs.Prelude.{ℕ, Bool, ◌&&◌, ◌==◌, List, map}
use Rattle.std.specs.List.{list_any}
use Rattle.dbtg_schema.specs.Lists.{Lists}
use Rattle.dbtg_schema.specs.Lookups.{some_and}
use Rattle.dbtg_schema.specs.Structure.{member_clause, order_of}
use Rattle.dbtg_cells.specs.declared.key.DbKey.{DbKey}
use Rattle.dbtg_cells.specs.declared.key.Value.{Value}
use Rattle.dbtg_unit.specs.declared.statement.Change.{Change}
use Rattle.dbtg_unit.specs.Database.Statements.Conditions.{refuses_equal, sort_key_taken}
use Rattle.dbtg_unit.specs.Hands.Hands.{Hands}
use Rattle.dbtg_unit.specs.Hands.InHand.{in_hand}

-- set s is sorted by an item that is named
abbrev pub is_rekeyed : Lists → List Change → ℕ → ℕ → Bool
is_rekeyed schema changes t s = some_and (λ m. some_and (λ i. list_any (λ j. j == i) (map (λ c. c.item) changes)) m.key) (member_clause schema s t)

-- there another member has the sort key of these items, and equal keys are refused
abbrev pub is_refused : Lists → Hands → List Change → DbKey → List Value → ℕ → Bool
is_refused schema hands changes k items s = is_rekeyed schema changes k.rtype s && (refuses_equal (order_of schema s) && sort_key_taken schema (in_hand hands) k items s)
