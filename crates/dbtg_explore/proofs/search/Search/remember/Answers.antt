use Rattle.std.proofs.Common.{true, false, subst}
use Rattle.std.proofs.lemmas.Result.{on_ok_weaker}
use Rattle.dbtg_states.proofs.States.Looks.{adds_there}
use Rattle.dbtg_explore.specs.Inside.Transitions.{IsPassage}
use Rattle.dbtg_explore.proofs.Transitions.{known_more}
use Rattle.dbtg_explore.proofs.search.Search.remember.Goals as goal

pub returns-then-changing-clause-seen : goal.returns-then-changing-clause-seen
returns-then-changing-clause-seen c =
    let m = c.args.meeting.now in
    let s = c.args.self.now in
    let places = c.places-places.ensures in
    let passed = subst (λ b. IsPassage m s.numbers c.requires.passed.0 c.args.names.now b c.args.passage) c.if-changing.true c.requires.passed.1 in
    on_ok_weaker c.remember.result
    (λ adds. record { plain = c.requires.seen.plain; changing = known_more m c.what_is_looked_at_determines.ensures c.requires.meeting s.numbers c.requires.passed.0 c.args.names.now true c.args.passage passed s.seen.changing c.remember.new.transitions c.requires.seen.changing adds })
    (adds_there _ _ _ _ _ _ _ _ _ _ _ _ places.schema places.capacity places.units c.remember.ensures)

pub returns-else-changing-clause-seen : goal.returns-else-changing-clause-seen
returns-else-changing-clause-seen c =
    let m = c.args.meeting.now in
    let s = c.args.self.now in
    let places = c.places-places.ensures in
    let passed = subst (λ b. IsPassage m s.numbers c.requires.passed.0 c.args.names.now b c.args.passage) c.if-changing.false c.requires.passed.1 in
    on_ok_weaker c.remember-else-changing.result
    (λ adds. record { plain = known_more m c.what_is_looked_at_determines.ensures c.requires.meeting s.numbers c.requires.passed.0 c.args.names.now false c.args.passage passed s.seen.plain c.remember-else-changing.new.transitions c.requires.seen.plain adds; changing = c.requires.seen.changing })
    (adds_there _ _ _ _ _ _ _ _ _ _ _ _ places.schema places.capacity places.units c.remember-else-changing.ensures)
