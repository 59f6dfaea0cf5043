use Rattle.std.proofs.Common.{sym, ◌∙◌}
use Rattle.dbtg_erase.specs.NextCell.{is_missing}
use Rattle.dbtg_erase.specs.WorkList.{cells_of_gone}
use Rattle.dbtg_erase.proofs.FirstNames.{found_key, further_key}
use Rattle.dbtg_erase.proofs.course.first_of_all.Goals as goal

pub returns-in-Some : goal.returns-in-Some
returns-in-Some c =
    found_key (is_missing c.args.held.now) (cells_of_gone c.args.schema.now c.args.held.now) c.args.gone.now c.loop-key.key-index c.key-item.result _ c.loop-key-test.true c.key-item.is
    c.in-Some.name (sym c.in-Some.is ∙ c.in_ok-name.ensures.next) c.loop-key.invariant

pub loop-key-preserved : goal.loop-key-preserved
loop-key-preserved c =
    further_key (is_missing c.args.held.now) (cells_of_gone c.args.schema.now c.args.held.now) c.args.gone.now c.loop-key.key-index c.key-item.result _ c.loop-key-test.true c.key-item.is
    (sym c.in-None.is ∙ c.in_ok-name.ensures.next) c.loop-key.invariant
