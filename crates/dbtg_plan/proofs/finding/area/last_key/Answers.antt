use Rattle.std.proofs.Common.{◌<◌, ◌+◌, ◌∙◌, sym, ap, filter, length, arith}
use Rattle.std.specs.Option.{option_or}
use Rattle.dbtg_schema.specs.Lookups.{final}
use Rattle.dbtg_plan.specs.Inside.Finding.{is_below, keys_wanted}
use Rattle.dbtg_plan.proofs.Find.KeysInTurn.{last_step, lists_end, lists_from, or_or}
use Rattle.dbtg_plan.proofs.finding.area.last_key.Goals as goal

pub loop-t-preserved : goal.loop-t-preserved
loop-t-preserved c =
    let g = keys_wanted c.args.schema.now c.args.held.now c.args.named.now c.args.area in
    let n = length c.args.schema.now.types in
    let p = is_below c.args.bound.now in
    let low : c.loop-t.t < n = omega (arith, c.loop-t-test.true, c.type_count-t-end.ensures.count) in
    let rest = final (filter p (lists_from g n (c.loop-t.t + 1))) in
    ap (option_or rest) c.or-last.ensures ∙ or_or rest c.last_of_type.result c.loop-t.last
    ∙ ap (λ a. option_or a c.loop-t.last) (ap (option_or rest) (c.last_of_type.ensures ∙ ap (λ t. final (filter p (g t))) c.new.ensures) ∙ sym (last_step p g n c.loop-t.t low))
    ∙ c.loop-t.invariant

pub returns : goal.returns
returns c =
    let g = keys_wanted c.args.schema.now c.args.held.now c.args.named.now c.args.area in
    let n = length c.args.schema.now.types in
    sym (ap (λ ks. option_or (final (filter (is_below c.args.bound.now) ks)) c.loop-t.last) (lists_end g n c.loop-t.t (omega (arith, c.loop-t-test.false, c.type_count-t-end.ensures.count))))
    ∙ c.loop-t.invariant
