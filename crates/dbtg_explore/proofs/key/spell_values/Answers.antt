use Rattle.std.proofs.Common.{◌≤◌, ◌∙◌, ◌++◌, ◌∷◌, [], ap, sym, append-nil, append_assoc, length, arith}
use Rattle.std.proofs.lemmas.List.{drop_all}
use Rattle.dbtg_explore.specs.Inside.Keys.{counts_by, numbers_from}
use Rattle.dbtg_explore.proofs.key.spell_values.Goals as goal

pub loop-field-init : goal.loop-field-init
loop-field-init c =
    let rest = numbers_from (counts_by c.args.goes c.args.read.now) 0 c.args.values.now in
    ap (λ l. l ++ rest) c.in_ok-push.ensures.items ∙ append_assoc c.args.out.now.items (length c.args.values.now ∷ []) rest

pub returns : goal.returns
returns c =
    let count = counts_by c.args.goes c.args.read.now in
    let out = c.loop-field.out.items in
    let high : length c.args.values.now ≤ c.loop-field.field = omega (arith, c.loop-field-test.false, c.loop-field.auto.field-end) in
    sym (append-nil out) ∙ ap (λ l. out ++ numbers_from count c.loop-field.field l) (sym (drop_all c.loop-field.field c.args.values.now high)) ∙ c.loop-field.invariant
