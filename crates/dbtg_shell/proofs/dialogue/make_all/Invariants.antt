use Rattle.std.proofs.Common.{◌≡◌, false}
use Rattle.dbtg_shell.specs.Programs.{HasGoneOn, IsStopped}
use Rattle.dbtg_shell.specs.Inside.Programs.{IsFollowed, seen}
use Rattle.dbtg_shell.proofs.ProgramSteps.{left_if}
use Rattle.dbtg_shell.proofs.dialogue.make_all.Given as goal

abbrev pub invariant-loop-goes_on : goal.invariant-loop-goes_on
invariant-loop-goes_on l =
    HasGoneOn l.initial.shell.turn l.initial.shell.session (seen l.initial.followed) l.shell.session (seen l.followed)
    × IsFollowed l.followed
    × (l.goes_on ≡ false → IsStopped l.initial.shell.turn l.shell.session (seen l.followed))
    × (l.shell.turn ≡ l.initial.shell.turn)

abbrev pub decreases-loop-goes_on : goal.decreases-loop-goes_on
decreases-loop-goes_on l = left_if l.goes_on l.shell.session l.shell.turn
