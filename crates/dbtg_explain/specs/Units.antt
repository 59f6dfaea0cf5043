-- How many units there can be: of a run, as many as scripts or programs, and of a session of the shell.
use Rattle.std.specs.Prelude.{ℕ, Bool, ◌&&◌, nat_le}

-- 1 to 8 units
abbrev pub is_count : ℕ → Bool
is_count n = nat_le 1 n && nat_le n 8
