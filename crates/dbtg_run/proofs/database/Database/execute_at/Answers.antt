use Rattle.std.proofs.Common.{sym, subst}
use Rattle.dbtg_run.specs.declared.view.About.{About}
use Rattle.dbtg_run.specs.declared.work.Work.{Work}
use Rattle.dbtg_run.specs.Outcomes.{NeedsNoLatch}
use Rattle.dbtg_run.specs.UnitView.{UnitView}
use Rattle.dbtg_run.proofs.database.Database.execute_at.Goals as goal

pub returns-clause-free : goal.returns-clause-free
returns-clause-free g c needs = c.execute.ensures.free
    (subst (λ (w : Work). NeedsNoLatch w.about w.unit c.args.statement.now) (sym c.deref_mut.ensures.value)
    (subst (λ (v : UnitView). NeedsNoLatch v.about v.unit c.args.statement.now) (sym c.unit.view_is)
    (subst (λ (a : About). NeedsNoLatch a c.args.unit.now.unit c.args.statement.now) (sym c.requires.belongs.about) needs)))
