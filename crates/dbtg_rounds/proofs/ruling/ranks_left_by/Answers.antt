-- The mark of a rank is taken away where an edge of the unit stays on it.
use Rattle.std.proofs.Common.{◌≡◌, refl, sym, ◌∙◌, subst, ℕ, ◌<◌, Bool, List, get_or, length, eq-eqb, arith}
use Rattle.std.proofs.lemmas.Bool.{false≢true}
use Rattle.std.proofs.lemmas.List.{with_items_is}
use Rattle.dbtg_rounds.specs.declared.edge.Edge.{Edge}
use Rattle.dbtg_rounds.specs.Inside.Reaching.{IsIn}
use Rattle.dbtg_rounds.specs.Inside.Ruling.{rank_of}
use Rattle.dbtg_rounds.proofs.Ranks.{all_left, from_within, left_more, to_within}
use Rattle.dbtg_rounds.proofs.ruling.ranks_left_by.Goals as goal
use Rattle.dbtg_rounds.proofs.ruling.ranks_left_by.Goals.{then-edge-unit+then-is_level, else-edge-unit, else-edge-unit-via-then-edge-unit+else-is_level, else-edge-unit-via-else-edge-unit}

pub is_level-requires-clause-from : goal.is_level-requires-clause-from
is_level-requires-clause-from c = from_within _ c.args.edges.now c.loop-edge.edge-index _ c.requires.within (omega arith)

pub is_level-requires-clause-to : goal.is_level-requires-clause-to
is_level-requires-clause-to c = to_within _ c.args.edges.now c.loop-edge.edge-index _ c.requires.within (omega arith)

pub bounds-ranks-edge : goal.bounds-ranks-edge
bounds-ranks-edge c = from_within _ c.args.edges.now c.loop-edge.edge-index _ c.requires.within (omega arith)

pub loop-edge-preserved : goal.loop-edge-preserved
loop-edge-preserved c =
    let ranks = c.args.ranks.now in
    let es = c.args.edges.now in
    let old = c.loop-edge.left.items in
    let new = c.if-edge-unit.left.items in
    let none : Edge = record { from = 0; unit = 0; to = 0 } in
    let e = get_or es c.loop-edge.edge-index none in
    let low : c.loop-edge.edge-index < length es = c.loop-edge-test.true in
    elim c.if-edge-unit.branch [
      | then-edge-unit+then-is_level w ↦
          let marks : new ≡ w.unmark.new.marks = (λ i. (w.left-is i).items) ∙ with_items_is c.loop-edge.left w.unmark.new.marks (omega (arith, w.unmark.auto.marks, w.as_mut_slice.ensures.len)) in
          let before : w.as_mut_slice.result.now ≡ old = w.as_mut_slice.ensures.value in
          left_more ranks es c.args.unit old new c.loop-edge.edge-index none low c.loop-edge.invariant
          (λ k marked. subst (λ (l : List Bool). IsIn l k) before (w.unmark.ensures k (subst (λ (l : List Bool). IsIn l k) marks marked)).0)
          (λ unit_is level marked. (w.unmark.ensures (rank_of ranks e.from) (subst (λ (l : List Bool). IsIn l (rank_of ranks e.from)) marks marked)).1 refl)
      | else-edge-unit w ↦
          let same : new ≡ old = λ i. (w.left-is i).items in
          let fewer = λ (k : ℕ) (marked : IsIn new k). subst (λ (l : List Bool). IsIn l k) same marked in
          elim w.else-edge-unit.branch [
            | else-edge-unit-via-then-edge-unit+else-is_level v ↦
                left_more ranks es c.args.unit old new c.loop-edge.edge-index none low c.loop-edge.invariant fewer
                (λ unit_is level marked. false≢true (sym v.if-is_level.false ∙ v.is_level.ensures ∙ eq-eqb (rank_of ranks e.to) (rank_of ranks e.from) level))
            | else-edge-unit-via-else-edge-unit v ↦
                left_more ranks es c.args.unit old new c.loop-edge.edge-index none low c.loop-edge.invariant fewer
                (λ unit_is level marked. v.if-edge-unit.false unit_is)
          ]
    ]

pub returns : goal.returns
returns c = all_left c.args.ranks.now c.args.edges.now c.args.unit c.loop-edge.left.items c.loop-edge.edge-index (omega arith) c.loop-edge.invariant
