use Rattle.std.proofs.Common.{◌≡◌, sym, ◌∙◌, ap, ℕ, List, length, arith}
use Rattle.std.specs.Prelude.{is_some}
use Rattle.std.specs.List.{flat_map}
use Rattle.dbtg_schema.proofs.Public.{numbers_end}
use Rattle.dbtg_unit.specs.Hands.Needs.{first_missing, store_rings_of}
use Rattle.dbtg_plan.proofs.Store.StoreSteps.{missing_found, missing_passed}
use Rattle.dbtg_plan.proofs.storing.missing_in_any_set.Goals as goal

pub returns-then-is_some : goal.returns-then-is_some
returns-then-is_some c =
    let f = store_rings_of c.args.schema.now c.args.unit.now c.args.key.now in
    let is : c.missing_in_set-name.result ≡ first_missing c.args.held.now (f c.loop-s.s) = c.missing_in_set-name.ensures ∙ ap (λ (s : ℕ). first_missing c.args.held.now (f s)) c.new-set.ensures in
    is
    ∙ sym (missing_found c.args.held.now f (length c.args.schema.now.sets) c.loop-s.s (omega (arith, c.set_count-s-end.ensures)) (ap is_some (sym is) ∙ sym c.is_some.ensures ∙ c.if-is_some.true))
    ∙ c.loop-s.invariant

pub loop-s-preserved : goal.loop-s-preserved
loop-s-preserved c =
    let f = store_rings_of c.args.schema.now c.args.unit.now c.args.key.now in
    let is : c.missing_in_set-name.result ≡ first_missing c.args.held.now (f c.loop-s.s) = c.missing_in_set-name.ensures ∙ ap (λ (s : ℕ). first_missing c.args.held.now (f s)) c.new-set.ensures in
    sym (missing_passed c.args.held.now f (length c.args.schema.now.sets) c.loop-s.s (omega (arith, c.set_count-s-end.ensures)) (ap is_some (sym is) ∙ sym c.is_some.ensures ∙ c.if-is_some.false))
    ∙ c.loop-s.invariant

pub returns : goal.returns
returns c =
    let f = store_rings_of c.args.schema.now c.args.unit.now c.args.key.now in
    sym (ap (λ (ss : List ℕ). first_missing c.args.held.now (flat_map f ss)) (numbers_end (length c.args.schema.now.sets) c.loop-s.s (omega (arith, c.set_count-s-end.ensures))))
    ∙ c.loop-s.invariant
