use Rattle.std.proofs.Common.{◌++◌, ◌∷◌, [], List, get_or, subst, sym, take}
use Rattle.std.proofs.lemmas.List.{take_more}
use Rattle.dbtg_program.specs.declared.program.End.TheVariants.{Stop}
use Rattle.dbtg_explore.specs.declared.explored.Failure.{Failure}
use Rattle.dbtg_explore.specs.Inside.Failures.{AreFirst}
use Rattle.dbtg_explore.proofs.FirstFailures.{one_first}
use Rattle.dbtg_explore.proofs.search.Search.first_failures.Goals as goal

pub loop-failure-preserved : goal.loop-failure-preserved
loop-failure-preserved c =
    let m = c.args.meeting.now in
    let os = c.args.self.now.found.orders in
    let fs = c.args.failures.now in
    let i = c.loop-failure.failure-index in
    let g = c.in_ok-first_failure.field-0 in
    let none : Failure = record { unit = 0; how = Stop } in
    let here = get_or fs i none in
    let one = one_first m os (take i fs) c.loop-failure.firsts.items here g c.loop-failure.invariant c.in_ok-first_failure.ensures.failure c.in_ok-first_failure.ensures.turns in
    subst (λ (ts : List Failure). AreFirst m os ts c.push.new.self.items) (sym (take_more fs i none c.loop-failure-test.true)) (subst (AreFirst m os (take i fs ++ here ∷ [])) (sym c.in_ok-push.ensures.items) one)
