-- The numbers of a record type.
use Rattle.std.specs.Prelude.{ℕ, zero, suc, Bool, false, ◌==◌, ◌&&◌, nat_lt, List, [], ◌∷◌, Option, Some, None, is_some, is_none, cond, slice_get, slice_set, option_map, unwrap_or}
use Rattle.dbtg_schema.specs.Lookups.{some_and}
use Rattle.dbtg_cells.specs.declared.key.Value.{Value}
use Rattle.dbtg_cells.specs.declared.extent.Number.{Number}
use Rattle.dbtg_cells.specs.Keys.{values_eq}
use Rattle.dbtg_cells.specs.declared.limits.TheConstants.{LAST_GENERATION}

-- the numbers whose entries pass the test, ascending, where the first entry is of number n
abbrev pub numbers_from : ℕ → (Number → Bool) → List Number → List ℕ
numbers_from n test [] = []
numbers_from n test (e ∷ es) = cond (test e) (n ∷ numbers_from (suc n) test es) (numbers_from (suc n) test es)

-- the numbers whose entries pass the test, ascending
abbrev pub numbers_where : (Number → Bool) → List Number → List ℕ
numbers_where test = numbers_from 1 test

-- a record has the number
abbrev pub is_used : Number → Bool
is_used e = is_some e.calc

-- no record has the number, and a generation is left
abbrev pub is_free : Number → Bool
is_free e = is_none e.calc && nat_lt e.last LAST_GENERATION

-- the record of the number has these CALC values
abbrev pub has_values : List Value → Number → Bool
has_values values e = some_and (λ v. values_eq v values) e.calc

-- what is known of number n
abbrev pub entry_of : ℕ → List Number → Option Number
entry_of zero numbers = None
entry_of (suc i) numbers = slice_get numbers i

-- the numbers with another entry for number n
abbrev pub with_entry : ℕ → Number → List Number → List Number
with_entry zero e numbers = numbers
with_entry (suc i) e numbers = slice_set numbers i e

-- the last generation of number n, 0 if it was never used
abbrev pub last_of : ℕ → List Number → ℕ
last_of n numbers = unwrap_or (option_map (λ e. e.last) (entry_of n numbers)) 0

-- the one number that is left out, if there is one
abbrev pub is_number_left_out : Option ℕ → ℕ → Bool
is_number_left_out None n = false
is_number_left_out (Some left) n = left == n
