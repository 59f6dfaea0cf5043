use Rattle.std.proofs.Common.{◌≡◌, ℕ, ◌<◌, ◌≤◌, ◌-◌, length, get_or}
use Rattle.dbtg_script.proofs.token.literal_len.Given as goal

abbrev pub invariant-loop-n : goal.invariant-loop-n
invariant-loop-n l = record { in_range : l.n ≤ length l.bytes; inside : (k : ℕ) → k < l.n → get_or l.bytes k 0 ≡ 34 → ⊥ }

abbrev pub decreases-loop-n : goal.decreases-loop-n
decreases-loop-n l = length l.bytes - l.n
