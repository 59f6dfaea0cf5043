use Rattle.std.proofs.Common.{◌≡◌, subst}
use Rattle.std.specs.Prelude.{IfSome, is_some}
use Rattle.dbtg_cells.specs.CellNumbers.{is_cell}
use Rattle.dbtg_cells.specs.Cells.{shown}
use Rattle.dbtg_unit.specs.Database.State.Cells.{cell}
use Rattle.dbtg_step.specs.Core.Whole.{Making, state_now}
use Rattle.dbtg_step.proofs.MadeWhole.Wholes.{whole_cell}
use Rattle.dbtg_step.proofs.whole.WholeDatabase.cell.Goals as goal

pub returns-clause-shows : goal.returns-clause-shows
returns-clause-shows c =
    subst (λ (m : Making). IfSome c.cell.result (λ x. shown x.now ≡ cell m.schema m.capacity (state_now m).database c.args.name.now)) c.self.view_is
    (whole_cell c.self.inside.schema.now c.self.inside.capacity c.self.inside.held c.self.inside.units.items c.self.inside.history.items c.self.invariant c.args.name.now c.cell.result c.cell.ensures).0

pub returns-clause-there : goal.returns-clause-there
returns-clause-there c =
    subst (λ (m : Making). is_some c.cell.result ≡ is_cell m.schema m.capacity c.args.name.now) c.self.view_is
    (whole_cell c.self.inside.schema.now c.self.inside.capacity c.self.inside.held c.self.inside.units.items c.self.inside.history.items c.self.invariant c.args.name.now c.cell.result c.cell.ensures).1
