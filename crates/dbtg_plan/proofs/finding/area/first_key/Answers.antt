use Rattle.std.proofs.Common.{◌<◌, ◌+◌, ◌∙◌, sym, ap, filter, length, arith}
use Rattle.std.specs.Option.{option_or}
use Rattle.dbtg_schema.specs.Lookups.{first}
use Rattle.dbtg_plan.specs.Inside.Finding.{is_above, keys_wanted}
use Rattle.dbtg_plan.proofs.Find.KeysInTurn.{first_step, lists_end, lists_from, or_skip, or_some}
use Rattle.dbtg_plan.proofs.finding.area.first_key.Goals as goal

pub returns-then-is_some : goal.returns-then-is_some
returns-then-is_some c =
    let g = keys_wanted c.args.schema.now c.args.held.now c.args.named.now c.args.area in
    let n = length c.args.schema.now.types in
    let p = is_above c.args.bound.now in
    let low : c.loop-t.t < n = omega (arith, c.loop-t-test.true, c.type_count-t-end.ensures.count) in
    let rest = first (filter p (lists_from g n (c.loop-t.t + 1))) in
    or_some c.first_of_type-found.result rest (sym c.if-is_some.ensures)
    ∙ ap (λ a. option_or a rest) (c.first_of_type-found.ensures ∙ ap (λ t. first (filter p (g t))) c.new.ensures)
    ∙ sym (first_step p g n c.loop-t.t low) ∙ c.loop-t.invariant

pub loop-t-preserved : goal.loop-t-preserved
loop-t-preserved c =
    let g = keys_wanted c.args.schema.now c.args.held.now c.args.named.now c.args.area in
    let n = length c.args.schema.now.types in
    let p = is_above c.args.bound.now in
    let low : c.loop-t.t < n = omega (arith, c.loop-t-test.true, c.type_count-t-end.ensures.count) in
    let rest = first (filter p (lists_from g n (c.loop-t.t + 1))) in
    or_skip c.first_of_type-found.result rest (sym c.if-is_some.ensures)
    ∙ ap (λ a. option_or a rest) (c.first_of_type-found.ensures ∙ ap (λ t. first (filter p (g t))) c.new.ensures)
    ∙ sym (first_step p g n c.loop-t.t low) ∙ c.loop-t.invariant

pub returns : goal.returns
returns c =
    let g = keys_wanted c.args.schema.now c.args.held.now c.args.named.now c.args.area in
    let n = length c.args.schema.now.types in
    sym (ap (λ ks. first (filter (is_above c.args.bound.now) ks)) (lists_end g n c.loop-t.t (omega (arith, c.loop-t-test.false, c.type_count-t-end.ensures.count))))
    ∙ c.loop-t.invariant
