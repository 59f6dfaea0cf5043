-- The marked states are those that lead to the start, so where a walk is missing no way round begins there.
use Rattle.std.proofs.Common.{◌≡◌, refl, sym, subst, ◌∙◌, ℕ, ◌<◌, List, Bool, get_or, length, arith}
use Rattle.std.specs.Prelude.{Contains}
use Rattle.std.proofs.lemmas.Grind.{common_steps}
use Rattle.std.proofs.lemmas.List.Elements.{Contains-get_or}
use Rattle.dbtg_rounds.specs.declared.edge.Edge.{Edge}
use Rattle.dbtg_rounds.specs.Rounds.{HasEdge, Leads}
use Rattle.dbtg_rounds.specs.Inside.Graphs.{AreReversed}
use Rattle.dbtg_rounds.specs.Inside.Reaching.{IsIn, LeadsIn}
use Rattle.dbtg_rounds.proofs.Leading.{AreLeading, comes_back, cut_off, first_marked, is_round, no_first_turn}
use Rattle.dbtg_rounds.proofs.round.round_from.Goals as goal

-- what is said of all graphs that were reversed so is said of this one
leading : (es bs : List Edge) (marks within : List Bool) (start : ℕ) → AreReversed es bs → within ≡ marks
    → ((fs : List Edge) (i : ℕ) → AreReversed fs bs → IsIn marks i → (us : List ℕ) × Leads fs i us start)
    → ((fs : List Edge) (i : ℕ) (us : List ℕ) → AreReversed fs bs → Leads fs i us start → IsIn marks i)
    → AreLeading es within start
leading es bs marks within start are same forth back = subst (λ (ms : List Bool). AreLeading es ms start) (sym same) (record {
  forth = λ i marked. forth es i are marked;
  back = λ i us leads. back es i us are leads;
})

pub take_each-requires-clause-marked : goal.take_each-requires-clause-marked
take_each-requires-clause-marked c =
    first_marked c.args.graph.now.edges c.as_slice.result.now c.args.start
    (leading c.args.graph.now.edges c.args.back.now.edges c.in_ok-within.within.items c.as_slice.result.now c.args.start c.requires.back.1 c.as_slice.ensures.value c.in_ok-within.ensures.forth c.in_ok-within.ensures.back)

pub returns-in_default-clause-none : goal.returns-in_default-clause-none
returns-in_default-clause-none c = λ _ units.
    cut_off c.args.graph.now.edges c.as_slice.result.now c.args.start
    (leading c.args.graph.now.edges c.args.back.now.edges c.in_ok-within.within.items c.as_slice.result.now c.args.start c.requires.back.1 c.as_slice.ensures.value c.in_ok-within.ensures.forth c.in_ok-within.ensures.back)
    units (c.in_ok-taken.ensures.none c.in_default.is)

pub returns-then-is_empty-clause-none : goal.returns-then-is_empty-clause-none
returns-then-is_empty-clause-none c = λ _ units.
    no_first_turn c.args.graph.now.edges c.args.start units (λ u j has.
    let there = c.at.ensures.all (record { from = c.args.start; unit = u; to = j }) has refl in
    let low = there.1 in
    let none : length c.at.result.now ≡ 0 = grind (arith, common_steps) in
    omega arith)

pub returns-then-not-branch-clause-none : goal.returns-then-not-branch-clause-none
returns-then-not-branch-clause-none c = λ _ units _.
    let es = c.args.graph.now.edges in
    let end : IsIn c.as_slice.result.now c.in-Some.taken.end × (c.in-Some.taken.end < c.args.graph.now.states) = rw c.in-Some.is at c.in_ok-taken.ensures.end in
    let marked : IsIn c.as_slice-2.result.now c.in-Some.taken.end = subst (λ (ms : List Bool). IsIn ms c.in-Some.taken.end) (c.as_slice.ensures.value ∙ sym c.as_slice-2.ensures.value) end.0 in
    let are = leading es c.args.back.now.edges c.in_ok-within.within.items c.as_slice-2.result.now c.args.start c.requires.back.1 c.as_slice-2.ensures.value c.in_ok-within.ensures.forth c.in_ok-within.ensures.back in
    let home = comes_back es c.as_slice-2.result.now c.args.start are c.in-Some.taken.end marked in
    c.in_ok-go_on_to_state.ensures.none c.if-not-branch.true home.0 home.1

pub returns-clause-round : goal.returns-clause-round
returns-clause-round c =
    let es = c.args.graph.now.edges in
    let each : (u j : ℕ) → HasEdge es c.args.start u j → Contains c.in-Some.taken.units.items u = rw c.in-Some.is at c.in_ok-taken.ensures.each in
    let leads : LeadsIn es c.as_slice-2.result.now c.args.start c.in-Some.taken.units.items c.in-Some.taken.end
    = subst (λ (ms : List Bool). LeadsIn es ms c.args.start c.in-Some.taken.units.items c.in-Some.taken.end) (c.as_slice.ensures.value ∙ sym c.as_slice-2.ensures.value) (rw c.in-Some.is at c.in_ok-taken.ensures.leads) in
    let edge : Edge = get_or c.at.result.now 0 (record { from = 0; unit = 0; to = 0 }) in
    let some_edge : 0 < length c.at.result.now = grind (arith, common_steps) in
    let first = c.at.ensures.only edge (Contains-get_or c.at.result.now 0 (record { from = 0; unit = 0; to = 0 }) some_edge) in
    let there = each edge.unit edge.to (subst (λ (n : ℕ). HasEdge es n edge.unit edge.to) first.1 first.0) in
    let low = there.1 in
    let some : 0 < length c.in-Some.taken.units.items = omega arith in
    (refl, is_round es c.as_slice-2.result.now c.args.start c.in-Some.taken c.go_on_to_state.new.taken leads each some (c.in_ok-go_on_to_state.ensures.leads c.if-not-branch.false) (c.in_ok-go_on_to_state.ensures.met c.if-not-branch.false))
