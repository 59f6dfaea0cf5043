use Rattle.std.proofs.Common.{◌-◌, length, refl, rules}
use Rattle.dbtg_cells.specs.Numbers.{has_values}
use Rattle.dbtg_cells.proofs.NumbersLeftOut.{listed_alike}
use Rattle.dbtg_cells.proofs.extent.Extent.next_with.Goals as goal

pub returns : goal.returns
returns c =
    let all = listed_alike (has_values c.args.values.now) c.self.inside.lists.value.numbers.items (c.self.inside.lists.value.capacity - length c.self.inside.lists.value.numbers.items) refl in
    search rules
