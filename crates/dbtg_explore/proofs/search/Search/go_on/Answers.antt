use Rattle.std.proofs.Common.{◌≡◌, ◌+◌, ℕ, [], subst, length, get_or, arith}
use Rattle.dbtg_explore.specs.Inside.Steps.{Goes}
use Rattle.dbtg_explore.proofs.Steps.{cannot_before, goes_both, goes_to_next, kept_range, stays}
use Rattle.dbtg_explore.proofs.search.Search.go_on.Goals as goal

pub loop-before-init : goal.loop-before-init
loop-before-init c =
    let m = c.args.meeting.now in
    (stays m c.args.self.now c.args.place 0 c.requires.within c.requires.at (cannot_before m (get_or c.args.self.now.found.orders c.args.place [])), c.requires.stands)

pub go_on_by-requires-clause-at : goal.go_on_by-requires-clause-at
go_on_by-requires-clause-at c = c.loop-before.invariant.0.at

pub go_on_by-requires-clause-within : goal.go_on_by-requires-clause-within
go_on_by-requires-clause-within c = kept_range c.args.meeting.now c.args.place c.args.place (c.loop-before.before + 1) c.args.self.now c.loop-before.self c.loop-before.invariant.0 c.requires.within

pub loop-before-preserved : goal.loop-before-preserved
loop-before-preserved c = (
  goes_both c.args.meeting.now c.args.place (c.loop-before.before + 1) (c.loop-before.before + 1 + 1) c.args.self.now c.loop-before.self c.go_on_by.new.self c.loop-before.invariant.0 c.in_ok-go_on_by.ensures.goes,
  c.in_ok-go_on_by.ensures.stands,
)

pub returns-clause-goes : goal.returns-clause-goes
returns-clause-goes c =
    let m = c.args.meeting.now in
    let all : c.loop-before.before + 1 ≡ length m.programs + 1 = omega (arith, c.units-before-end.ensures, c.loop-before-test.false) in
    goes_to_next m c.args.place c.args.self.now c.loop-before.self c.requires.within
    (subst (λ (u : ℕ). Goes m c.args.place u c.args.self.now c.loop-before.self) all c.loop-before.invariant.0)
