-- A number, as the command's words say it.
use Rattle.std.specs.Prelude.{ℕ, ◌&&◌, nat_le, List, Option, Some, None, if◌then◌else◌}
use Rattle.dbtg_script.specs.Printing.Spelling.{is_number, number}

-- digits alone, from 1 to the greatest
abbrev pub count_in : ℕ → List ℕ → Option ℕ
count_in most word = if is_number word && nat_le 1 (number word) && nat_le (number word) most then Some (number word) else None
