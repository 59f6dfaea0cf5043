use Rattle.inventory_clerks.proofs.Belonging.{last_two_belong}
use Rattle.inventory_clerks.proofs.warehouse.two_of.Goals as goal

pub returns : goal.returns
returns c =
    last_two_belong c.args.db.now c.args.units.items _ _ _ _ _ _ c.pop.ensures.items c.pop-2.ensures.items c.unwrap-second.ensures c.unwrap-first.ensures c.requires.belong
