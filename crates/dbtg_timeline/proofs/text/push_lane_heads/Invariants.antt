use Rattle.std.proofs.Common.{◌≡◌, ◌++◌, ◌+◌, drop}
use Rattle.dbtg_timeline.specs.Text.{lane_heads}
use Rattle.dbtg_timeline.proofs.text.push_lane_heads.Given as goal

abbrev pub invariant-loop-script : goal.invariant-loop-script
invariant-loop-script l = record { text : l.out.items ++ lane_heads l.n (drop l._script-index l.scripts) ≡ l.initial.out.items ++ lane_heads 1 l.scripts; count : l.n ≡ 1 + l._script-index }
