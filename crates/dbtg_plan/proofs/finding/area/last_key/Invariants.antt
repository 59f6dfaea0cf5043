use Rattle.std.proofs.Common.{◌≡◌, filter, length}
use Rattle.std.specs.Option.{option_or}
use Rattle.dbtg_schema.specs.Lookups.{final}
use Rattle.dbtg_plan.specs.Inside.Finding.{area_keys_in, is_below, keys_wanted}
use Rattle.dbtg_plan.proofs.Find.KeysInTurn.{lists_from}
use Rattle.dbtg_plan.proofs.finding.area.last_key.Given as goal

abbrev pub invariant-loop-t : goal.invariant-loop-t
invariant-loop-t l =
    option_or (final (filter (is_below l.bound) (lists_from (keys_wanted l.schema l.held l.named l.area) (length l.schema.types) l.t))) l.last
    ≡ final (filter (is_below l.bound) (area_keys_in l.schema l.held l.named l.area))
