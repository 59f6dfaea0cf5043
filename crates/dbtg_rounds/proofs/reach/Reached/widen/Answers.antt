-- The marked end of each edge is met.
use Rattle.std.proofs.Common.{◌≡◌, ◌∙◌, ◌+◌, length, sym, subst, arith}
use Rattle.std.proofs.lemmas.Bool.{both_ways}
use Rattle.std.proofs.lemmas.List.Elements.{Contains-get_or}
use Rattle.dbtg_rounds.specs.declared.edge.Edge.{Edge}
use Rattle.dbtg_rounds.specs.Inside.Reaching.{Grows}
use Rattle.dbtg_rounds.proofs.Reached.{AreSeen, grows_more, met_at, one_seen, stays, widened_by}
use Rattle.dbtg_rounds.proofs.reach.Reached.widen.Goals as goal
use Rattle.dbtg_rounds.proofs.reach.Reached.widen.Goals.{then-is_in+in_ok-meet, else-is_in}

pub meet-requires : goal.meet-requires
meet-requires c =
    let is = c.at-edge-items.ensures.only _ (Contains-get_or c.at-edge-items.result.now c.loop-edge.edge-index (record { from = 0; unit = 0; to = 0 }) c.loop-edge-test.true) in
    let within = c.is_within.ensures _ is.0 in
    record { state = omega (arith, within.1, c.loop-edge.invariant.grows.long, c.requires.long) }

pub loop-edge-preserved : goal.loop-edge-preserved
loop-edge-preserved c =
    let es = c.args.graph.now.edges in
    let fs = c.at-edge-items.result.now in
    let marks = c.args.within.now in
    let k = c.loop-edge.edge-index in
    let d : Edge = record { from = 0; unit = 0; to = 0 } in
    let old = c.args.self.now in
    let r = c.loop-edge.self in
    elim c.if-is_in.branch [
      | then-is_in+in_ok-meet w ↦
          let both = met_at es fs marks c.args.graph.now.states c.args.place c.index.result.now old c.requires.place c.index.ensures c.at-edge-items.ensures.only k d r w.meet.new.self c.loop-edge-test.true c.loop-edge.invariant.grows c.is_within.ensures c.requires.long (sym c.is_in.ensures ∙ w.if-is_in.true) w.in_ok-meet.ensures in
          record {
            grows = subst (Grows es marks old) (sym w.self-is) (grows_more es marks old r w.meet.new.self c.loop-edge.invariant.grows both.0);
            seen = subst (AreSeen fs marks (k + 1)) (sym w.self-is) (one_seen es fs marks k d r w.meet.new.self c.loop-edge-test.true both.0 c.loop-edge.invariant.seen (λ _. both.1));
          }
      | else-is_in w ↦ record {
        grows = subst (Grows es marks old) (sym w.self-is) c.loop-edge.invariant.grows;
        seen = subst (AreSeen fs marks (k + 1)) (sym w.self-is) (one_seen es fs marks k d r r c.loop-edge-test.true (stays es marks r) c.loop-edge.invariant.seen (λ marked. absurd (both_ways _ (sym c.is_in.ensures ∙ w.if-is_in.false) marked)));
      }
    ]

pub returns-clause-widened : goal.returns-clause-widened
returns-clause-widened c =
    let all : c.loop-edge.edge-index ≡ length c.at-edge-items.result.now = omega arith in
    let seen = subst (λ n. AreSeen c.at-edge-items.result.now c.args.within.now n c.loop-edge.self) all c.loop-edge.invariant.seen in
    widened_by c.args.graph.now.edges c.at-edge-items.result.now c.args.within.now c.args.graph.now.states c.args.place c.index.result.now c.args.self.now c.requires.place c.index.ensures c.at-edge-items.ensures.only c.loop-edge.self seen c.at-edge-items.ensures.all
