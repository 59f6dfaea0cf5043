use Rattle.std.proofs.Common.{◌≡◌, length}
use Rattle.dbtg_run.specs.Inside.Works.{Belongs, IsAtWork, IsSameUnit}
use Rattle.dbtg_run.proofs.work.Work.put_each_cell.Given as goal

abbrev pub invariant-cells : goal.invariant-cells
invariant-cells l = record {
  belongs : Belongs l.db l.self;
  same : IsSameUnit l.initial.self l.self;
  work : IsAtWork l.self;
  exclusive : l.self.exclusive ≡ l.initial.self.exclusive;
  held : l.self.held ≡ record l.initial.self.held { cells = l.self.held.cells };
}

abbrev pub decreases-cells : goal.decreases-cells
decreases-cells l = length l.self.held.cells
