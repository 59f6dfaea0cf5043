use Rattle.std.proofs.Common.{◌≡◌, ◌++◌, ◌+◌, drop}
use Rattle.dbtg_timeline.specs.Svg.{lanes_text}
use Rattle.dbtg_timeline.proofs.svg.push_each_lane.Given as goal

abbrev pub invariant-loop-midway : goal.invariant-loop-midway
invariant-loop-midway l = record { text : l.out.items ++ lanes_text l.strip l.top l.n (drop l.midway-index l.lanes) ≡ l.initial.out.items ++ lanes_text l.strip l.top 1 l.lanes; count : l.n ≡ 1 + l.midway-index }
