use Rattle.dbtg_step.specs.Core.Audit.{entries_at}
use Rattle.dbtg_step.proofs.MadeWhole.Audits.{led_on, refused_at, match_true}
use Rattle.dbtg_step.proofs.auditing.audit_from.Goals as goal

pub returns-in_ok-into_image_and_units : goal.returns-in_ok-into_image_and_units
returns-in_ok-into_image_and_units c =
    led_on c.args.database c.takes_all.new.database (entries_at c.args.history.now) _ _ (match_true c.in_ok-takes_all.field-0 _ _ c.if-branch.true c.in_ok-takes_all.ensures) c.requires.fresh (c.in_ok-into_image_and_units).ensures

pub returns-else-branch : goal.returns-else-branch
returns-else-branch c = refused_at c.in_ok-takes_all.field-0 _ _ c.if-branch.false c.in_ok-takes_all.ensures
