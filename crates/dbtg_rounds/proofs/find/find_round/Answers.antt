-- What is found in the graph, whose edges are the same, is a way round by the edges.
use Rattle.std.proofs.Common.{◌≡◌, sym, ◌∙◌, subst, ℕ, Bool, List, arith}
use Rattle.dbtg_rounds.specs.Rounds.{IsRound}
use Rattle.dbtg_rounds.specs.Inside.Reaching.{IsIn}
use Rattle.dbtg_rounds.proofs.SameEdges.{begins_within, none_next, round_same, same_back}
use Rattle.dbtg_rounds.proofs.find.find_round.Goals as goal
use Rattle.dbtg_rounds.proofs.find.find_round.Goals.{then-not-is_in+in_ok-round+in_default, else-not-is_in}

pub returns-in-Some-clause-round : goal.returns-in-Some-clause-round
returns-in-Some-clause-round c =
    let es = c.args.edges.items in
    let fs = c.in_ok-graph.graph.edges in
    let state = c.loop-state.state in
    let units = c.in-Some.round.units.items in
    let both : (c.in-Some.round.start ≡ state) × IsRound fs state units = rw c.in-Some.is at c.in_ok-round.ensures.round in
    subst (λ (i : ℕ). IsRound es i units) (sym both.0) (round_same fs es c.in_ok-graph.ensures.edges state units both.1)

pub loop-state-preserved : goal.loop-state-preserved
loop-state-preserved c =
    let es = c.args.edges.items in
    let fs = c.in_ok-graph.graph.edges in
    let state = c.loop-state.state in
    let none : (units : List ℕ) → IsRound fs state units → ⊥ = elim c.if-not-is_in.branch [
      | then-not-is_in+in_ok-round+in_default w ↦ w.in_ok-round.ensures.none w.in_default.is
      | else-not-is_in w ↦
          let marked : IsIn c.as_slice.result.now state = sym c.is_in.ensures ∙ w.if-not-is_in.false in
          λ units. c.in_ok-ruled.ensures state units (subst (λ (l : List Bool). IsIn l state) c.as_slice.ensures.value marked)
    ] in
    none_next es state c.loop-state.invariant (λ units round. none units (round_same es fs (same_back fs es c.in_ok-graph.ensures.edges) state units round))

pub returns-clause-none : goal.returns-clause-none
returns-clause-none c = λ _ start units round.
    let low = begins_within c.args.states c.args.edges.items c.requires.within start units round in
    c.loop-state.invariant start units (omega arith) round
