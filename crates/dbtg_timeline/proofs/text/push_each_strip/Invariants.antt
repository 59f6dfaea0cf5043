use Rattle.std.proofs.Common.{false, replicate, ◌≡◌, ◌++◌, drop}
use Rattle.dbtg_timeline.specs.Text.{strips_text}
use Rattle.dbtg_timeline.proofs.text.push_each_strip.Given as goal

abbrev pub invariant-loop-strip : goal.invariant-loop-strip
invariant-loop-strip l = l.out.items ++ strips_text l.lanes.items (drop l.strip-index l.strips) ≡ l.initial.out.items ++ strips_text (replicate l.units false) l.strips
