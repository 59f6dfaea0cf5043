use Rattle.std.proofs.Common.{◌≡◌, ◌++◌, take, map}
use Rattle.dbtg_script.specs.Printing.Texts.{letter}
use Rattle.dbtg_script.proofs.image.push_letters.Given as goal

abbrev pub invariant-loop-step : goal.invariant-loop-step
invariant-loop-step l = l.out.items ≡ l.initial.out.items ++ map letter (take l.step-index l.steps)
