-- Guesses of owners that the held record shows to be wrong.
-- k is a key, s a set.
use Rattle.std.specs.Prelude.{ℕ, Bool, ◌&&◌, ◌==◌, List, Option, Some, None, is_some, map, if◌then◌else◌}
use Rattle.std.specs.List.{list_any}
use Rattle.dbtg_schema.specs.Lists.{Lists}
use Rattle.dbtg_schema.specs.Lookups.{at}
use Rattle.dbtg_schema.specs.Structure.{set_numbers}
use Rattle.dbtg_cells.specs.declared.key.DbKey.{DbKey}
use Rattle.dbtg_cells.specs.declared.key.Owner.{Owner}
use Rattle.dbtg_unit.specs.declared.held.Need.{Need}
use Rattle.dbtg_unit.specs.declared.held.Need.TheVariants.{Ready, Stale}
use Rattle.dbtg_unit.specs.declared.statement.Statement.{Statement}
use Rattle.dbtg_unit.specs.declared.unit.Unit.{Unit}
use Rattle.dbtg_unit.specs.Hands.Hands.{Hands}
use Rattle.dbtg_unit.specs.Hands.InHand.{owner_in}
use Rattle.dbtg_unit.specs.Hands.Needs.{guessed_sets, is_wrong_guess}

-- the owner of k in set s, if the set is needed and that owner is not the guess
abbrev pub wrong_owner_in : Hands → List ℕ → DbKey → ℕ → Option Owner
wrong_owner_in hands needed k s = if list_any (λ s'. s' == s) needed && is_wrong_guess (owner_in hands s k) (at hands.guesses s) then owner_in hands s k else None

-- by set, the owners that differ from the guesses
abbrev pub wrong_owners_in : Lists → Unit → Hands → Statement → DbKey → List (Option Owner)
wrong_owners_in schema unit hands statement k = map (wrong_owner_in hands (guessed_sets schema unit statement) k) (set_numbers schema)

-- there is such an owner
abbrev pub has_wrong_owner_in : Lists → Unit → Hands → Statement → DbKey → Bool
has_wrong_owner_in schema unit hands statement k = list_any (λ s. is_some (wrong_owner_in hands (guessed_sets schema unit statement) k s)) (set_numbers schema)

-- what is needed once all areas and cells are held: other guesses if there is such an owner; otherwise nothing
abbrev pub need_of_guesses : Lists → Unit → Hands → Statement → Option DbKey → Need
need_of_guesses schema unit hands statement None = Ready
need_of_guesses schema unit hands statement (Some k) = if has_wrong_owner_in schema unit hands statement k then Stale else Ready
