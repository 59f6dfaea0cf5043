use Rattle.std.proofs.Common.{false, replicate, ◌≡◌, ◌++◌, ◌+◌, ◌*◌, drop}
use Rattle.dbtg_timeline.specs.Svg.{strips_text}
use Rattle.dbtg_timeline.proofs.svg.push_each_strip.Given as goal

abbrev pub invariant-loop-strip : goal.invariant-loop-strip
invariant-loop-strip l = record { text : l.out.items ++ strips_text l.left l.lanes.items l.top (drop l.strip-index l.strips) ≡ l.initial.out.items ++ strips_text l.left (replicate l.units false) 32 l.strips; count : l.top ≡ 32 + 18 * l.strip-index }
