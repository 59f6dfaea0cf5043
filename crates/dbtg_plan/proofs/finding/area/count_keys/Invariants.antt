use Rattle.std.proofs.Common.{◌≡◌, ◌+◌, ◌*◌, ◌≤◌, length}
use Rattle.dbtg_plan.specs.Inside.Finding.{area_keys_in, keys_wanted}
use Rattle.dbtg_plan.proofs.Find.KeysInTurn.{lists_from}
use Rattle.dbtg_plan.proofs.finding.area.count_keys.Given as goal

abbrev pub invariant-loop-t : goal.invariant-loop-t
invariant-loop-t l = record {
  few : l.count ≤ 65536 * l.t;
  counted : l.count + length (lists_from (keys_wanted l.schema l.held l.named l.area) (length l.schema.types) l.t) ≡ length (area_keys_in l.schema l.held l.named l.area);
}
