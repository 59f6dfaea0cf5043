use Rattle.std.proofs.Common.{◌≡◌, ◌∙◌, ap, ◌<◌, length, arith}
use Rattle.dbtg_plan.specs.Inside.Finding.{keys_wanted}
use Rattle.dbtg_plan.proofs.Find.KeysInTurn.{count_step, lists_end}
use Rattle.dbtg_plan.proofs.finding.area.count_keys.Goals as goal

pub loop-t-preserved : goal.loop-t-preserved
loop-t-preserved c =
    let g = keys_wanted c.args.schema.now c.args.held.now c.args.named.now c.args.area in
    let n = length c.args.schema.now.types in
    let low : c.loop-t.t < n = omega (arith, c.loop-t-test.true, c.type_count-t-end.ensures.count) in
    let here : c.count_of_type-count.result ≡ length (g c.loop-t.t) = c.count_of_type-count.ensures.count ∙ ap (λ t. length (g t)) c.new.ensures in
    let step = count_step g n c.loop-t.t low in
    let counted = c.loop-t.invariant.counted in
    let few = c.loop-t.invariant.few in
    let more = c.count_of_type-count.ensures.few in
    record { few = omega arith; counted = omega arith }

pub returns : goal.returns
returns c =
    let g = keys_wanted c.args.schema.now c.args.held.now c.args.named.now c.args.area in
    let n = length c.args.schema.now.types in
    let none = ap length (lists_end g n c.loop-t.t (omega (arith, c.loop-t-test.false, c.type_count-t-end.ensures.count))) in
    let counted = c.loop-t.invariant.counted in
    omega arith
