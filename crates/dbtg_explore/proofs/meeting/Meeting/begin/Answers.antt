use Rattle.std.proofs.Common.{◌∙◌, ap, map, refl, subst}
use Rattle.dbtg_going.specs.Goings.{AreAfter}
use Rattle.dbtg_explore.specs.Inside.Keys.{items_read}
use Rattle.dbtg_explore.specs.Orders.{Meeting}
use Rattle.dbtg_explore.proofs.Walks.{stands_first}
use Rattle.dbtg_explore.proofs.meeting.Meeting.begin.Goals as goal

pub returns : goal.returns
returns c =
    let database = c.in_ok-database.database in
    let goings = c.in_ok-database.goings in
    stands_first c.args.self.now database goings.items _
    (subst (λ (m : Meeting). AreAfter m.schema m.capacity m.programs m.begun database goings.items) c.self.view_is c.in_ok-database.ensures) c.of.ensures refl c.new.ensures.items
    (c.in_ok-each_items_read.ensures ∙ ap (λ (m : Meeting). map items_read m.programs) c.self.view_is)
