use Rattle.std.proofs.Common.{◌∙◌, ℕ, ◌≤◌, List, Option, sym, subst}
use Rattle.std.specs.Prelude.{IfSome, Some}
use Rattle.dbtg_rounds.specs.Rounds.{AreWithin, IsRound}
use Rattle.dbtg_rounds.specs.declared.round.Round.{Round}
use Rattle.dbtg_explore.specs.Explored.{IsFirstEndless}
use Rattle.dbtg_explore.proofs.Rounding.{are_within, begins_within, first_endless, is_endless, none_endless}
use Rattle.dbtg_explore.proofs.endless.endless_in.Goals as goal

pub find_round-requires : goal.find_round-requires
find_round-requires c = record { within = subst (λ n. AreWithin n c.args.edges.items) (sym c.len.ensures) (are_within c.requires.0 c.args.found.now.orders c.args.edges.items c.requires.1) }

pub returns-in_default : goal.returns-in_default
returns-in_default c = λ m all. none_endless m c.args.found.now.orders c.args.edges.items all (c.in_ok-round.ensures.none c.in_default.is)

pub order-requires : goal.order-requires
order-requires c =
    let os = c.args.found.now.orders in
    let es = c.args.edges.items in
    let round = subst (λ (found : Option Round). IfSome found (λ r. IsRound es r.start r.units.items)) c.in-Some.is c.in_ok-round.ensures.round in
    begins_within c.requires.0 os es c.requires.1 c.in-Some.round.start c.in-Some.round.units.items round

pub returns : goal.returns
returns c = λ m all.
    let os = c.args.found.now.orders in
    let es = c.args.edges.items in
    let start = c.in-Some.round.start in
    let units = c.in-Some.round.units.items in
    let round = subst (λ (found : Option Round). IfSome found (λ r. IsRound es r.start r.units.items)) c.in-Some.is c.in_ok-round.ensures.round in
    let first = subst (λ (found : Option Round). IfSome found (λ r. (k : ℕ) (us : List ℕ) → IsRound es k us → r.start ≤ k)) c.in-Some.is c.in_ok-round.ensures.first in
    subst (λ (us : List ℕ). IsFirstEndless m (Some (record { turns = c.of-turns.result; round = us }))) (sym c.of-round.ensures)
    (subst (λ (ts : List ℕ). IsFirstEndless m (Some (record { turns = ts; round = units }))) (sym (c.of-turns.ensures ∙ c.in_ok-order.ensures))
    (is_endless m os es all start units round, first_endless m os es all start (begins_within m os es all start units round) first))
