use Rattle.std.proofs.Common.{◌≡◌, drop}
use Rattle.std.specs.Prelude.{map}
use Rattle.std.specs.List.{list_any}
use Rattle.dbtg_schema.specs.Structure.{automatic_sets, home}
use Rattle.dbtg_unit.specs.Inside.Areas.{asks}
use Rattle.dbtg_unit.proofs.areas.ask_of_automatic.Given as goal

abbrev pub invariant-loop-set : goal.invariant-loop-set
invariant-loop-set l =
    list_any (asks l.unit.modes l.question) (map (home l.schema) (drop l.set-index l.set-items))
    ≡ list_any (asks l.unit.modes l.question) (map (home l.schema) (automatic_sets l.schema l.fn.rtype))
