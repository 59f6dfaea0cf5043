use Rattle.std.proofs.Common.{◌<◌, sym, ◌∙◌, arith}
use Rattle.dbtg_cells.specs.Numbers.{last_of}
use Rattle.dbtg_plan.proofs.Store.NumberSteps.{free_is_unspent}
use Rattle.dbtg_plan.proofs.calc.fresh_key.Goals as goal

pub overflow_add-result : goal.overflow_add-result
overflow_add-result c =
    let low : last_of c.in-Some.number c.args.extent.now.numbers < 255 = free_is_unspent c.args.extent.now.numbers c.in-Some.number (sym c.least_free.ensures ∙ c.in-Some.is) in
    omega arith
