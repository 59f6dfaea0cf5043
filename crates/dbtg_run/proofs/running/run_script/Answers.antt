use Rattle.dbtg_run.proofs.Units.Runs.{ran_more, ran_next, ran_none}
use Rattle.std.proofs.Common.{◌≡◌, ◌+◌, drop, subst, sym}
use Rattle.dbtg_run.specs.Running.{Ran}
use Rattle.dbtg_run.specs.UnitView.{BelongsTo, UnitView}
use Rattle.dbtg_run.proofs.running.run_script.Goals as goal

pub script-init : goal.script-init
script-init g c =
    let script = c.args.script.now in let first = c.args.unit.now in let same = sym c.make_room.ensures in record {
      belongs = subst (BelongsTo c.args.db.now) same c.requires.belongs;
      ran = subst (λ (u : UnitView). (r : Ran script first u) × (r.left ≡ drop 0 script)) same (ran_none script first);
    }

pub script-preserved : goal.script-preserved
script-preserved g c =
    let script = c.args.script.now in let i = c.script.invariant in let k = c.script.statement-index in
    let next = ran_next script c.args.unit.now c.script.unit k c.statement-item.result c.script-test.true c.statement-item.is i.ran in record {
      belongs = c.insist_at.ensures.belongs;
      ran = ran_more c.args.db.now script c.args.unit.now c.script.unit c.insist_at.new.unit c.statement-item.result (drop (k + 1) script) c.in-Done.field-0 i.belongs c.insist_at.ensures.belongs c.insist_at.ensures.number next c.in-Done.ensures.done;
    }
