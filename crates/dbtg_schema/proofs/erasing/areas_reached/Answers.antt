use Rattle.std.proofs.Common.{◌∙◌, ap, length, arith}
use Rattle.dbtg_schema.specs.Inside.Erasing.{is_given}
use Rattle.dbtg_schema.proofs.Indexes.Erasings.{given_is_touched, touched}
use Rattle.dbtg_schema.proofs.erasing.areas_reached.Goals as goal

pub returns : goal.returns
returns c =
    let schema = c.args.schema.now in
    let ways = c.args.ways.now in
    let marks = c.reachable-marks.result in
    λ a h.
    c.loop-a.invariant.made a (omega (arith, h))
    ∙ ap (λ n. is_given ways.touched n marks a) (ap length c.types.ensures.types)
    ∙ given_is_touched schema ways.leads ways.touched marks a c.requires h
    ∙ touched schema c.args.rtype a marks c.reachable-marks.ensures
