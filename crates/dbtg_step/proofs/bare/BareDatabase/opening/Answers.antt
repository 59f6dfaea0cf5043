use Rattle.std.proofs.Common.{refl}
use Rattle.dbtg_step.proofs.MadeWhole.Wholes.{opens}
use Rattle.dbtg_step.proofs.bare.BareDatabase.opening.Goals as goal

pub returns : goal.returns
returns c =
    let o = opens c.args.schema.now c.args.capacity c.args.units c.in_ok-opening_hands.field-0 c.in_ok-opening_units.field-0.items c.requires.sound c.in_ok-opening_units.ensures c.in_ok-opening_hands.ensures.all c.in_ok-opening_hands.ensures.cells in
    record { schema_is = refl; capacity_is = refl; units_are = o.0; stands = record { whole = o.1; count_is = refl } }
