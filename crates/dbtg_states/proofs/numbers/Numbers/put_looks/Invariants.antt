use Rattle.std.proofs.Common.{◌≡◌, map, take}
use Rattle.dbtg_states.proofs.States.Looks.{change_of}
use Rattle.dbtg_states.proofs.numbers.Numbers.put_looks.Given as goal

abbrev pub invariant-loop-look : goal.invariant-loop-look
invariant-loop-look l = l.changes.items ≡ map change_of (take l.look-index l.looks)
