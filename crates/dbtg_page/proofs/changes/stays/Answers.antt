use Rattle.std.proofs.Common.{◌<◌, arith}
use Rattle.dbtg_page.proofs.Positions.{stays_far}
use Rattle.dbtg_page.proofs.changes.stays.Goals as goal

pub returns-else-place-le1 : goal.returns-else-place-le1
returns-else-place-le1 c =
    let far : 1 < c.args.place = c.if-place-le1.false in
    stays_far c.args.kind c.args.old.now c.args.later.now _ c.args.place c.is_among.result c.name_by.result.now far (omega
    (arith, far, c.requires)) c.name_by.ensures c.is_among.ensures
