use Rattle.std.proofs.Common.{sym, ap, ◌∙◌, subst}
use Rattle.dbtg_unit.specs.Hands.Hands.{Hands}
use Rattle.dbtg_cells.specs.declared.cell.Cell.{Cell}
use Rattle.dbtg_cells.specs.declared.name.CellName.{CellName}
use Rattle.dbtg_step.specs.Machine.SequentialDatabase.{In}
use Rattle.dbtg_step.proofs.TheCore.NeedsShown.{in_back}
use Rattle.dbtg_step.proofs.TheCore.PlacesOfCells.{place_within}
use Rattle.dbtg_step.proofs.TheCore.QuitShown.{homes_step, places_left}
use Rattle.dbtg_step.proofs.quitting.give_each_cell.Goals as goal

pub put_home-requires : goal.put_home-requires
put_home-requires c number is =
    let given : CellName × Cell = (c.in-Some.name, c.in-Some.cell) in
    place_within c.args.schema.now c.args.capacity c.in-Some.name c.loop-name.table.items (c.loop-name.invariant.places given (subst (In given) (sym c.in-Some.ensures.cells) (in_back given c.pop_cell.new.self.cells))) number is

pub loop-name-preserved : goal.loop-name-preserved
loop-name-preserved c =
    let old = c.loop-name.held.cells in
    let new = c.pop_cell.new.self.cells in
    let given : CellName × Cell = (c.in-Some.name, c.in-Some.cell) in
    record {
      places = places_left c.args.schema.now c.args.capacity old new given c.loop-name.table.items c.put_home.new.table.items c.in-Some.ensures.cells c.put_home.ensures c.loop-name.invariant.places;
      rest = c.in-Some.ensures.rest ∙ ap (λ (h : Hands). record h { cells = new }) c.loop-name.invariant.rest;
      homes = homes_step c.args.schema.now c.args.capacity old new given c.loop-name.table.items c.put_home.new.table.items c.in-Some.ensures.cells c.put_home.ensures ∙ c.loop-name.invariant.homes;
    }
