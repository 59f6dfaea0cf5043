use Rattle.inventory_clerks.proofs.Closing.{if_settled, of_ok}
use Rattle.inventory_clerks.proofs.work_day.Goals as goal

pub returns-clause-filled : goal.returns-clause-filled
returns-clause-filled g c =
    let filled = c.fill_orders-house.result in
    let house = filled.0 in
    if_settled house.db house.first house.second c.args.first_orders.now c.args.second_orders.now c.close_house.result c.close_house.ensures
    c.args.house.first.journal c.args.house.second.journal
    (of_ok filled.1 c.in_ok-filled.field-0 c.in_ok-filled.was c.fill_orders-house.ensures.first)
    (of_ok filled.1 c.in_ok-filled.field-0 c.in_ok-filled.was c.fill_orders-house.ensures.second)
