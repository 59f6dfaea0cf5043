use Rattle.std.proofs.Common.{◌≡◌, take}
use Rattle.dbtg_states.proofs.spelled.as_numbers.Given as goal

abbrev pub invariant-loop-byte : goal.invariant-loop-byte
invariant-loop-byte l = l.numbers.items ≡ take l.byte-index l.bytes
