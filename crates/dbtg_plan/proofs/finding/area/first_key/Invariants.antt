use Rattle.std.proofs.Common.{◌≡◌, filter, length}
use Rattle.dbtg_schema.specs.Lookups.{first}
use Rattle.dbtg_plan.specs.Inside.Finding.{area_keys_in, is_above, keys_wanted}
use Rattle.dbtg_plan.proofs.Find.KeysInTurn.{lists_from}
use Rattle.dbtg_plan.proofs.finding.area.first_key.Given as goal

abbrev pub invariant-loop-t : goal.invariant-loop-t
invariant-loop-t l =
    first (filter (is_above l.bound) (lists_from (keys_wanted l.schema l.held l.named l.area) (length l.schema.types) l.t))
    ≡ first (filter (is_above l.bound) (area_keys_in l.schema l.held l.named l.area))
