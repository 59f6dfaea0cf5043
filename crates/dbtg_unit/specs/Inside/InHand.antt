-- Words beside `InHand` that private functions and lemmas use.
use Rattle.std.specs.Prelude.{ℕ, ◌==◌, List, Option, None, option_and_then, if◌then◌else◌}
use Rattle.dbtg_cells.specs.declared.extent.Number.{Number}
use Rattle.dbtg_cells.specs.declared.key.DbKey.{DbKey}
use Rattle.dbtg_cells.specs.declared.key.Value.{Value}
use Rattle.dbtg_cells.specs.Numbers.{entry_of, last_of}

-- the latest key of number n of record type t
abbrev pub key_of : List Number → ℕ → ℕ → DbKey
key_of numbers t n = record { rtype = t; number = n; generation = last_of n numbers }

-- the CALC values of the record k in an extent's numbers
abbrev pub values_of_key : List Number → DbKey → Option (List Value)
values_of_key numbers k = option_and_then (λ e. if e.last == k.generation then e.calc else None) (entry_of k.number numbers)
