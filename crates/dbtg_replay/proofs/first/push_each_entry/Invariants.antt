use Rattle.std.proofs.Common.{◌≡◌, ◌++◌, drop, map}
use Rattle.dbtg_replay.specs.Refused.{refused_lines}
use Rattle.dbtg_replay.proofs.first.push_each_entry.Given as goal

abbrev pub invariant-loop-i : goal.invariant-loop-i
invariant-loop-i l =
    l.out.items ++ refused_lines l.first.name.now l.first.capacity l.first.unit (map (λ s. s.now) (drop l.i l.lines)) (drop l.i l.history)
    ≡ l.initial.out.items ++ refused_lines l.first.name.now l.first.capacity l.first.unit (map (λ s. s.now) l.lines) l.history
