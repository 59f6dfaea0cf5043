use Rattle.std.proofs.Common.{◌≡◌, ◌++◌, drop}
use Rattle.dbtg_timeline.specs.Strips.{folded, folded_from}
use Rattle.dbtg_timeline.proofs.strips.push_folded.Given as goal

abbrev pub invariant-loop-i : goal.invariant-loop-i
invariant-loop-i l = l.parts.items ++ folded_from l.width l.part.items (drop l.i l.text) ≡ l.initial.parts.items ++ folded l.width l.text
