-- The edges of the graph are within its states, each of which has a rank.
use Rattle.std.proofs.Common.{◌≡◌, sym, ◌∙◌, ap, subst, Bool, List, Vec, Global, length}
use Rattle.std.specs.Prelude.{IfOk}
use Rattle.dbtg_rounds.specs.declared.edge.Edge.{Edge}
use Rattle.dbtg_rounds.specs.Inside.Ruling.{AreRuled}
use Rattle.dbtg_rounds.proofs.Ranks.{same_within}
use Rattle.dbtg_rounds.proofs.ruling.ruled_out.Goals as goal

pub ruled_by-requires : goal.ruled_by-requires
ruled_by-requires c =
    let graph = c.args.graph.now in
    let ranks = c.as_slice.result.now in
    let states : graph.states ≡ length ranks = sym (ap length c.as_slice.ensures.value ∙ c.in_ok-ranks.ensures) in
    record { within = same_within graph.states (length ranks) graph.edges c.edges.result.now states (sym c.edges.ensures) c.is_within.ensures }

pub returns : goal.returns
returns c = subst (λ (l : List Edge). IfOk c.ruled_by.result (λ (v : Vec Bool Global). AreRuled l v.items)) c.edges.ensures c.ruled_by.ensures
