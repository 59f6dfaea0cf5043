use Rattle.std.proofs.Common.{◌≡◌, ◌∙◌, sym, ap, ℕ, Bool, List, cond, length, None, arith}
use Rattle.dbtg_schema.specs.Lookups.{at}
use Rattle.dbtg_cells.specs.declared.name.CellName.{CellName}
use Rattle.dbtg_unit.specs.Hands.Needs.{first_missing, is_missing, ring_names}
use Rattle.dbtg_plan.specs.Inside.Modifying.{is_rekeyed}
use Rattle.dbtg_plan.proofs.Store.SetSteps.{found_here, found_later, found_nowhere}
use Rattle.dbtg_plan.proofs.modifying.missing_rekeyed_ring.Goals as goal

pub returns-then-is_some : goal.returns-then-is_some
returns-then-is_some c =
    let rings : ℕ → List CellName = λ s. ring_names s (at c.args.held.now.guesses s) in
    let is_wanted : ℕ → Bool = λ s. is_rekeyed c.args.schema.now c.args.changes.now c.args.rtype s in
    let here : c.missing_ring_of-name.result ≡ cond (is_wanted c.loop-s.s) (first_missing c.args.held.now (rings c.loop-s.s)) None =
    c.missing_ring_of-name.ensures ∙ ap (λ s. cond (is_wanted s) (first_missing c.args.held.now (rings s)) None) c.new.ensures in
    sym (found_here (is_missing c.args.held.now) rings is_wanted (length c.args.schema.now.sets) c.loop-s.s (omega (arith, c.set_count-s-end.ensures)) c.missing_ring_of-name.result here (sym c.is_some.ensures ∙ c.if-is_some.true))
    ∙ c.loop-s.invariant

pub loop-s-preserved : goal.loop-s-preserved
loop-s-preserved c =
    let rings : ℕ → List CellName = λ s. ring_names s (at c.args.held.now.guesses s) in
    let is_wanted : ℕ → Bool = λ s. is_rekeyed c.args.schema.now c.args.changes.now c.args.rtype s in
    let here : c.missing_ring_of-name.result ≡ cond (is_wanted c.loop-s.s) (first_missing c.args.held.now (rings c.loop-s.s)) None =
    c.missing_ring_of-name.ensures ∙ ap (λ s. cond (is_wanted s) (first_missing c.args.held.now (rings s)) None) c.new.ensures in
    sym (found_later (is_missing c.args.held.now) rings is_wanted (length c.args.schema.now.sets) c.loop-s.s (omega (arith, c.set_count-s-end.ensures)) c.missing_ring_of-name.result here (sym c.is_some.ensures ∙ c.if-is_some.false))
    ∙ c.loop-s.invariant

pub returns : goal.returns
returns c =
    let rings : ℕ → List CellName = λ s. ring_names s (at c.args.held.now.guesses s) in
    let is_wanted : ℕ → Bool = λ s. is_rekeyed c.args.schema.now c.args.changes.now c.args.rtype s in
    sym (found_nowhere (is_missing c.args.held.now) rings is_wanted (length c.args.schema.now.sets) c.loop-s.s (omega (arith, c.set_count-s-end.ensures))) ∙ c.loop-s.invariant
