use Rattle.std.proofs.Common.{◌≡◌, ◌∷◌, map, take}
use Rattle.dbtg_timeline.specs.Marks.{letter}
use Rattle.dbtg_timeline.proofs.lines.Line.letters.Given as goal

abbrev pub invariant-loop-event : goal.invariant-loop-event
invariant-loop-event l = l.text.items ≡ letter l.self.head.mark ∷ map (λ e. letter e.mark) (take l.event-index l.self.more)
