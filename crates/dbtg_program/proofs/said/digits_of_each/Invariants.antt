use Rattle.std.proofs.Common.{◌≡◌, map, take}
use Rattle.dbtg_program.specs.Inside.Views.{digits_of}
use Rattle.dbtg_program.proofs.said.digits_of_each.Given as goal

abbrev pub invariant-loop-word : goal.invariant-loop-word
invariant-loop-word l = l.each.items ≡ map (digits_of l.state) (take l.word-index l.words)
