use Rattle.std.proofs.Common.{◌≡◌, map, take}
use Rattle.dbtg_going.specs.Goings.{comes_of}
use Rattle.dbtg_explore.specs.Results.{reached_of}
use Rattle.dbtg_explore.proofs.text.reached_of_each.Given as goal

abbrev pub invariant-loop-going : goal.invariant-loop-going
invariant-loop-going l = l.each.items ≡ map (λ g. reached_of (comes_of g)) (take l.going-index l.goings)
