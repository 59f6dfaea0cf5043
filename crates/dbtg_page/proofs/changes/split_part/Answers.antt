use Rattle.std.proofs.Common.{◌<◌, ◌∷◌, ◌∙◌, ap, drop, length, arith}
use Rattle.dbtg_page.specs.Changes.{parts}
use Rattle.dbtg_page.proofs.PartsSplit.{next_part, whole_is}
use Rattle.dbtg_page.proofs.changes.split_part.Goals as goal

pub returns-in_err-rest-clause-parts : goal.returns-in_err-rest-clause-parts
returns-in_err-rest-clause-parts c =
    let r = c.part_len.ensures in
    let none = c.in_err-rest.ensures.cases in
    rw c.from_residual.ensures (whole_is c.args.mark c.args.text.now (λ k lt. r.inside k (omega (arith, lt, none, c.split_at.ensures.back_len))))

pub returns-clause-parts : goal.returns-clause-parts
returns-clause-parts c =
    let r = c.part_len.ensures in
    let some = c.in_ok-rest.ensures.cases in
    let lt : c.part_len.result < length c.args.text.now = omega (arith, ap length some.0, c.split_at.ensures.back_len) in
    next_part c.args.mark c.part_len.result c.args.text.now c.split_at.result.0.now c.split_at.result.1.now lt r.inside
    (r.stops lt) c.split_at.ensures.front c.split_at.ensures.back
    ∙ ap (λ t. c.split_at.result.0.now ∷ parts c.args.mark (drop 1 t)) some.0
