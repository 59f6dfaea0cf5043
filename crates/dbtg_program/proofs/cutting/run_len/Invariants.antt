use Rattle.std.proofs.Common.{◌≡◌, ℕ, ◌<◌, ◌≤◌, ◌-◌, false, length, get_or}
use Rattle.dbtg_program.specs.Sentences.{is_sign}
use Rattle.dbtg_program.proofs.cutting.run_len.Given as goal

abbrev pub invariant-loop-n : goal.invariant-loop-n
invariant-loop-n l = record { in_range : l.n ≤ length l.bytes; inside : (k : ℕ) → k < l.n → is_sign (get_or l.bytes k 0) ≡ false }

abbrev pub decreases-loop-n : goal.decreases-loop-n
decreases-loop-n l = length l.bytes - l.n
