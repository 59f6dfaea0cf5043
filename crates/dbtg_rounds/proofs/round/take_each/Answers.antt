-- Each edge at the state gives its unit a turn, or shows that the unit is cut off from where the turns end.
use Rattle.std.proofs.Common.{◌≡◌, ◌<◌, ◌+◌, ℕ, List, ◌++◌, refl, sym, subst, ap, ◌∙◌, get_or, length, inl, inr, arith}
use Rattle.std.specs.Prelude.{Contains}
use Rattle.std.proofs.lemmas.Bool.{cases_lt}
use Rattle.std.proofs.lemmas.List.{get_or_default}
use Rattle.std.proofs.lemmas.List.Elements.{Contains-append_left, Contains-get_or}
use Rattle.dbtg_rounds.specs.declared.edge.Edge.{Edge}
use Rattle.dbtg_rounds.specs.Rounds.{HasEdge}
use Rattle.dbtg_rounds.specs.Inside.Reaching.{GoesOn, LeadsIn}
use Rattle.dbtg_rounds.proofs.Walks.{end_within, leads_in_on, no_turn}
use Rattle.dbtg_rounds.proofs.round.take_each.Goals as goal

abbrev no_edge : Edge
no_edge = record { from = 0; unit = 0; to = 0 }

-- the units of one edge more have turns
each_more : (fs : List Edge) (n : ℕ) (us vs ws : List ℕ) → n < length fs → ws ≡ us ++ vs → Contains ws (get_or fs n no_edge).unit → ((k : ℕ) (e : Edge) → k < n → get_or fs k e ≡ e → Contains us e.unit)
    → (k : ℕ) (e : Edge) → k < n + 1 → get_or fs k e ≡ e → Contains ws e.unit
each_more fs n us vs ws within are here before k e low is = elim (cases_lt k n) [
  | inl below ↦ subst (λ (ts : List ℕ). Contains ts e.unit) (sym are) (Contains-append_left us vs e.unit (before k e below is))
  | inr above ↦
      let at : n ≡ k = omega arith in
      let same : get_or fs n no_edge ≡ e = get_or_default fs n no_edge e within ∙ ap (λ (m : ℕ). get_or fs m e) at ∙ is in
      subst (λ (f : Edge). Contains ws f.unit) same here
]

pub loop-edge-init : goal.loop-edge-init
loop-edge-init c = record {
  leads = subst (λ (us : List ℕ). LeadsIn c.args.graph.now.edges c.args.within.now c.args.start us c.args.start) (sym c.new.ensures.items) (no_turn c.args.graph.now.edges c.args.within.now c.args.start);
  marked = c.requires.marked;
  low = c.requires.start;
  each = λ k e low is. absurd (omega arith);
}

pub returns-then-not-branch-clause-none : goal.returns-then-not-branch-clause-none
returns-then-not-branch-clause-none c = λ _.
    let es = c.args.graph.now.edges in
    let edge : Edge = get_or c.at-edge-items.result.now c.loop-edge.edge-index no_edge in
    let here = c.at-edge-items.ensures.only edge (Contains-get_or c.at-edge-items.result.now c.loop-edge.edge-index no_edge c.loop-edge-test.true) in
    record {
      unit = edge.unit;
      to = edge.to;
      has = subst (λ (n : ℕ). HasEdge es n edge.unit edge.to) here.1 here.0;
      at = c.loop-edge.taken.end;
      marked = c.loop-edge.invariant.marked;
      is_cut_off = c.in_ok-go_on_to_turn.ensures.none c.if-not-branch.true;
    }

pub loop-edge-preserved : goal.loop-edge-preserved
loop-edge-preserved c =
    let es = c.args.graph.now.edges in
    let marks = c.args.within.now in
    let old = c.loop-edge.taken in
    let new = c.go_on_to_turn.new.taken in
    let on : GoesOn es marks old new = c.in_ok-go_on_to_turn.ensures.leads c.if-not-branch.false in
    record {
      leads = subst (λ (us : List ℕ). LeadsIn es marks c.args.start us new.end) (sym on.units_are)
          (leads_in_on es marks c.args.start old.end new.end old.units.items on.further c.loop-edge.invariant.leads on.leads);
      marked = on.marked;
      low = end_within es marks c.args.graph.now.states old.end new.end on.further c.is_within.ensures c.loop-edge.invariant.low on.leads;
      each = each_more c.at-edge-items.result.now c.loop-edge.edge-index old.units.items on.further new.units.items c.loop-edge-test.true on.units_are
          (c.in_ok-go_on_to_turn.ensures.met c.if-not-branch.false) c.loop-edge.invariant.each;
    }

pub returns-clause-each : goal.returns-clause-each
returns-clause-each c = λ u j has.
    let there = c.at-edge-items.ensures.all (record { from = c.args.start; unit = u; to = j }) has refl in
    let low = there.1 in
    c.loop-edge.invariant.each there.0 (record { from = c.args.start; unit = u; to = j }) (omega arith) there.2
