use Rattle.std.proofs.Common.{drop}
use Rattle.dbtg_unit.specs.Hands.Making.{ShowsTheSame}
use Rattle.dbtg_plan.proofs.Store.StoreSteps.{RoomsBut}
use Rattle.dbtg_plan.proofs.storing.make_places.Given as goal

abbrev pub invariant-loop-set : goal.invariant-loop-set
invariant-loop-set l =
    record {
      same : ShowsTheSame l.initial.held l.held;
      rooms : RoomsBut l.schema l.unit l.held l.key (drop l.set-index l.set-items);
    }
