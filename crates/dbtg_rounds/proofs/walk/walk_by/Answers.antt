-- The turns to the state, and the last turn.
use Rattle.std.proofs.Common.{◌≡◌, ℕ, List, sym, subst, get_or, arith}
use Rattle.std.proofs.lemmas.Grind.{common_steps}
use Rattle.dbtg_rounds.specs.Inside.Reaching.{LeadsIn}
use Rattle.dbtg_rounds.proofs.Walks.{one_turn_on}
use Rattle.dbtg_rounds.proofs.walk.walk_by.Goals as goal

pub returns-in-Some-clause-leads : goal.returns-in-Some-clause-leads
returns-in-Some-clause-leads c = λ start reached.
    let es = c.args.graph.now.edges in
    let marks = c.args.within.now in
    let edge = c.in-Some.edge in
    let before : LeadsIn es marks start c.in_ok-units.units.items (get_or c.args.reached.now.states.items c.loop-place.place 0) = c.in_ok-units.ensures es marks start reached in
    let at : get_or c.args.reached.now.states.items c.loop-place.place 0 ≡ edge.from = grind (arith, common_steps, c.index.ensures, c.in-Some.ensures.edge) in
    let on = one_turn_on es marks start edge.from edge.to edge.unit c.in_ok-units.units.items (subst (λ (n : ℕ). LeadsIn es marks start c.in_ok-units.units.items n) at before) c.in-Some.ensures.edge.0 c.in-Some.ensures.met.0 in
    subst (λ (us : List ℕ). LeadsIn es marks start us edge.to) (sym c.in_ok-push.ensures.items) on
