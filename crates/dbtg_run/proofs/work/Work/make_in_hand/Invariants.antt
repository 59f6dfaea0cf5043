use Rattle.dbtg_unit.specs.Hands.Prepared.{unit_after}
use Rattle.dbtg_run.specs.Inside.Drawn.{cells_after}
use Rattle.dbtg_run.proofs.work.Work.make_in_hand.Given as goal

abbrev pub ghosts-commit : goal.ghosts-commit
ghosts-commit g a = record { statement = a.statement; answer = a.noted; unit = unit_after a.self.now.about.schema.value a.prepared a.self.now.unit; held = cells_after a.prepared a.self.now.held.cells }
