use Rattle.std.proofs.Common.{◌∙◌, ap}
use Rattle.dbtg_step.specs.Core.Whole.{state_now}
use Rattle.dbtg_explore.specs.Inside.Versions.{is_in_order}
use Rattle.dbtg_explore.proofs.Versions.Images.{in_order_same}
use Rattle.dbtg_explore.proofs.unversioned.unversioned_kept.Goals as goal

pub of-requires : goal.of-requires
of-requires c = record { in_order = ap is_in_order (c.in_ok-entries.ensures) ∙ in_order_same (state_now c.args.database.now).database c.as_slice.result.now ∙ ap is_in_order c.as_slice.ensures ∙ c.requires.order }
