use Rattle.std.proofs.Common.{◌∙◌}
use Rattle.dbtg_unit.proofs.Hands.Changes.SortedPlaces.{sorted_placed}
use Rattle.dbtg_unit.proofs.apply.place.Goals as goal

pub returns-in-First : goal.returns-in-First
returns-in-First c = rw c.in-First.is c.place_first.ensures.occurrence

pub returns-in-Last : goal.returns-in-Last
returns-in-Last c = rw c.in-Last.is c.place_last.ensures.occurrence

pub returns-in-Next : goal.returns-in-Next
returns-in-Next c = rw c.in-Next.is c.place_next.ensures

pub returns-in-Prior : goal.returns-in-Prior
returns-in-Prior c = rw c.in-Prior.is c.place_prior.ensures

pub returns-in-Sorted : goal.returns-in-Sorted
returns-in-Sorted c =
    let placing = rw c.in-Sorted.is at c.requires.place in
    rw c.in-Sorted.is (c.place_sorted.ensures.occurrence ∙ sorted_placed c.in-Sorted.ascending c.in-Sorted.duplicates c.args.sort_key (c.args.key, c.args.sort_key) c.args.ring.now.occurrence placing.1)
