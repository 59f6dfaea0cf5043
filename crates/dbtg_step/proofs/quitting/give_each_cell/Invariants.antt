use Rattle.std.proofs.Common.{◌≡◌, length, reverse}
use Rattle.dbtg_step.specs.Inside.Parts.{written_homes}
use Rattle.dbtg_step.specs.Inside.Stands.{HavePlaces}
use Rattle.dbtg_step.proofs.quitting.give_each_cell.Given as goal

abbrev pub invariant-loop-name : goal.invariant-loop-name
invariant-loop-name l = record {
  places : HavePlaces l.schema l.capacity l.held.cells l.table.items;
  rest : l.held ≡ record l.initial.held { cells = l.held.cells };
  homes : written_homes l.schema l.capacity (reverse l.held.cells) l.table.items ≡ written_homes l.schema l.capacity (reverse l.initial.held.cells) l.initial.table.items;
}

abbrev pub decreases-loop-name : goal.decreases-loop-name
decreases-loop-name l = length l.held.cells
