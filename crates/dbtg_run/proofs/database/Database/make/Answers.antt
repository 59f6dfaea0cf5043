use Rattle.dbtg_run.proofs.Units.Made.{opened_belong, opened_count}
use Rattle.dbtg_run.proofs.database.Database.make.Goals as goal

pub returns-clause-belong : goal.returns-clause-belong
returns-clause-belong c = opened_belong _ c.in_ok-board.units.items _ c.in_ok-board.ensures.units

pub returns-clause-count : goal.returns-clause-count
returns-clause-count c = opened_count _ _ c.in_ok-board.units.items _ c.in_ok-board.ensures.units
