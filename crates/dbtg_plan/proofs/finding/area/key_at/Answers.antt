use Rattle.std.proofs.Common.{◌≡◌, ◌<◌, ◌≤◌, ◌+◌, ◌-◌, ◌∙◌, sym, ap, length, arith}
use Rattle.std.specs.Prelude.{slice_get}
use Rattle.dbtg_plan.specs.Inside.Finding.{keys_wanted}
use Rattle.dbtg_plan.proofs.Find.KeysInTurn.{lists_end, lists_from, place_behind, place_here}
use Rattle.dbtg_plan.proofs.finding.area.key_at.Goals as goal

pub returns-then-left-count : goal.returns-then-left-count
returns-then-left-count c =
    let g = keys_wanted c.args.schema.now c.args.held.now c.args.named.now c.args.area in
    let n = length c.args.schema.now.types in
    let low : c.loop-t.t < n = omega (arith, c.loop-t-test.true, c.type_count-t-end.ensures.count) in
    let count : c.count_of_type-count.result ≡ length (g c.loop-t.t) = c.count_of_type-count.ensures.count ∙ ap (λ t. length (g t)) c.new-rtype.ensures in
    let inside : c.loop-t.left < length (g c.loop-t.t) = omega (arith, count, c.if-left-count.true) in
    c.nth_of_type.ensures ∙ ap (λ t. slice_get (g t) c.loop-t.left) c.new-rtype.ensures
    ∙ sym (place_here g n c.loop-t.t c.loop-t.left low inside) ∙ c.loop-t.invariant

pub loop-t-preserved : goal.loop-t-preserved
loop-t-preserved c =
    let g = keys_wanted c.args.schema.now c.args.held.now c.args.named.now c.args.area in
    let n = length c.args.schema.now.types in
    let low : c.loop-t.t < n = omega (arith, c.loop-t-test.true, c.type_count-t-end.ensures.count) in
    let count : c.count_of_type-count.result ≡ length (g c.loop-t.t) = c.count_of_type-count.ensures.count ∙ ap (λ t. length (g t)) c.new-rtype.ensures in
    let past : length (g c.loop-t.t) ≤ c.loop-t.left = omega (arith, count, c.if-left-count.false) in
    ap (λ m. slice_get (lists_from g n (c.loop-t.t + 1)) (c.loop-t.left - m)) count
    ∙ sym (place_behind g n c.loop-t.t c.loop-t.left low past) ∙ c.loop-t.invariant

pub returns : goal.returns
returns c =
    let g = keys_wanted c.args.schema.now c.args.held.now c.args.named.now c.args.area in
    let n = length c.args.schema.now.types in
    sym (ap (λ ks. slice_get ks c.loop-t.left) (lists_end g n c.loop-t.t (omega (arith, c.loop-t-test.false, c.type_count-t-end.ensures.count))))
    ∙ c.loop-t.invariant
