use Rattle.std.proofs.Common.{◌≡◌, length}
use Rattle.std.specs.Prelude.{slice_get}
use Rattle.dbtg_plan.specs.Inside.Finding.{area_keys_in, keys_wanted}
use Rattle.dbtg_plan.proofs.Find.KeysInTurn.{lists_from}
use Rattle.dbtg_plan.proofs.finding.area.key_at.Given as goal

abbrev pub invariant-loop-t : goal.invariant-loop-t
invariant-loop-t l =
    slice_get (lists_from (keys_wanted l.schema l.held l.named l.area) (length l.schema.types) l.t) l.left ≡ slice_get (area_keys_in l.schema l.held l.named l.area) l.place
