use Rattle.std.proofs.Common.{◌≡◌, ◌≤◌, length, take}
use Rattle.dbtg_program.specs.Values.{stripped}
use Rattle.dbtg_program.proofs.state.stripped_len.Given as goal

abbrev pub invariant-loop-len : goal.invariant-loop-len
invariant-loop-len l = record { within : l.len ≤ length l.text; stripped : stripped (take l.len l.text) ≡ stripped l.text }

abbrev pub decreases-loop-len : goal.decreases-loop-len
decreases-loop-len l = l.len
