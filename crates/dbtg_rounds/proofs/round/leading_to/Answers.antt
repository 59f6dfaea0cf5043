-- What is reached among the reversed edges is what leads to the state.
use Rattle.std.proofs.Common.{◌<◌, ℕ, List, Bool, true, false, ap, ◌∙◌, get_or, arith}
use Rattle.std.proofs.lemmas.List.{get_or-replicate}
use Rattle.dbtg_rounds.specs.Inside.Reaching.{IsIn}
use Rattle.dbtg_rounds.proofs.Leading.{reversed_walk, walk_reversed}
use Rattle.dbtg_rounds.proofs.Walks.{led_to, leads_there}
use Rattle.dbtg_rounds.proofs.round.leading_to.Goals as goal

pub returns-clause-forth : goal.returns-clause-forth
returns-clause-forth c = λ es i are seen.
    let bs = c.args.back.now.edges in
    let led = led_to bs c.as_slice.result.now c.args.state i c.in_ok-reached.reached c.in_ok-reached.ensures.reached seen in
    reversed_walk es bs are c.args.state i led.0 (leads_there bs c.as_slice.result.now c.args.state i led.0 led.1)

pub returns-clause-back : goal.returns-clause-back
returns-clause-back c = λ es i us are leads.
    let bs = c.args.back.now.edges in
    let marks = c.as_slice.result.now in
    let all : (k : ℕ) → k < c.args.back.now.states → IsIn marks k = λ k low.
    ap (λ (bs : List Bool). get_or bs k false) (c.as_slice.ensures.value ∙ c.in_ok-all.ensures.items_if_clones_equal (λ y e. e)) ∙ get_or-replicate c.states.result k true false (omega (arith, c.states.ensures)) in
    let led = walk_reversed es bs are marks c.args.back.now.states c.is_within.ensures all i c.args.state us leads in
    c.in_ok-reached.ensures.all led.0 i led.1
