use Rattle.std.proofs.Common.{◌≡◌, [], length}
use Rattle.dbtg_run.specs.Inside.Works.{Belongs, IsAtWork, IsSameUnit}
use Rattle.dbtg_run.proofs.work.Work.give_back.Given as goal

abbrev pub invariant-areas : goal.invariant-areas
invariant-areas l = record {
  belongs : Belongs l.db l.self;
  same : IsSameUnit l.initial.self l.self;
  work : IsAtWork l.self;
  exclusive : l.self.exclusive ≡ l.initial.self.exclusive;
  held : l.self.held ≡ record l.initial.self.held { areas = l.self.held.areas; cells = [] };
}

abbrev pub decreases-areas : goal.decreases-areas
decreases-areas l = length l.self.held.areas
