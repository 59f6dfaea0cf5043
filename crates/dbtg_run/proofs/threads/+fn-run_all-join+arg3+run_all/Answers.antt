use Rattle.std.proofs.Common.{rules, ◌≡◌, List, All, sym, ap, subst, length, arith, true}
use Rattle.std.proofs.Crossing.{crosses}
use Rattle.std.proofs.lemmas.Result.{IfOk-at_ok, IfOk-weaker}
use denote.Param.Send.{sendable}
use Rattle.dbtg_unit.specs.declared.statement.Statement.{Statement}
use Rattle.dbtg_unit.specs.Database.Statements.Fits.{fits}
use Rattle.dbtg_run.specs.Running.{HaveMade, IsWhole, Ran}
use Rattle.dbtg_run.specs.UnitView.{BelongsTo}
use Rattle.dbtg_run.proofs.Units.Abreast.{all_back, all_belong, last_place, script_at}
use Rattle.dbtg_run.proofs.Crosses.{database_sync, statement_sync, unit_send}
use Rattle.dbtg_run.proofs.Together.Joined.{all_less}
use Rattle.dbtg_run.proofs.threads.+fn-run_all-join+arg3+run_all.Goals as goal

pub join-one-requires-send-F : goal.join-one-requires-send-F
join-one-requires-send-F g t c κs within = search (sendable, crosses, database_sync, statement_sync, unit_send) depth 40 fits 20000

pub join-one-requires-send-A : goal.join-one-requires-send-A
join-one-requires-send-A g t c κs within = search (sendable, crosses, unit_send) depth 40

pub join-one-requires-after_bounds : goal.join-one-requires-after_bounds
join-one-requires-after_bounds g t c κs within =
    let b = all_less (BelongsTo c.args.db.now) c.pop.new.self.items c.args.units.items c.in-Some.unit c.in-Some.ensures.items c.requires.belong in
    let l = last_place c.pop.new.self.items c.args.units.items c.in-Some.unit c.in-Some.ensures.items in
    let k = ap length c.as_slice.ensures.value in let r = c.requires.scripts in
    let fit = subst (λ (s : List Statement). All (λ x. fits c.args.db.now.schema x ≡ true) s) (sym c.script_at-script.ensures) (c.requires.fit (length c.as_slice.result.now) c.script_at-script.result.now (omega arith)) in
    ((search rules, search rules, b.1, fit), (search rules, (search rules, (search rules, ((search rules, search rules, b.0, c.requires.fit, omega arith), search rules)))))

pub returns-in-Ok-clause-belong : goal.returns-in-Ok-clause-belong
returns-in-Ok-clause-belong g t c =
    all_belong (BelongsTo c.args.db.now) c.join-one.result.1.0.items c.push_reserved.new.self.items c.join-one.result.0.0 c.push_reserved.ensures.items c.join-one.ensures.second.0 c.join-one.ensures.first.0

pub returns-in-Err-clause-belong : goal.returns-in-Err-clause-belong
returns-in-Err-clause-belong g t c =
    all_belong (BelongsTo c.args.db.now) c.join-one.result.1.0.items c.push_reserved.new.self.items c.join-one.result.0.0 c.push_reserved.ensures.items c.join-one.ensures.second.0 c.join-one.ensures.first.0

pub returns-in-Ok-clause-ran : goal.returns-in-Ok-clause-ran
returns-in-Ok-clause-ran g t c =
    let l = last_place c.pop.new.self.items c.args.units.items c.in-Some.unit c.in-Some.ensures.items in
    let r = c.requires.scripts in
    all_back Ran c.args.scripts.now c.args.units.items c.pop.new.self.items c.join-one.result.1.0.items c.push_reserved.new.self.items c.script_at-script.result.now c.in-Some.unit c.join-one.result.0.0
    c.in-Some.ensures.items c.push_reserved.ensures.items
    (script_at c.args.scripts.now (length c.as_slice.result.now) (length c.pop.new.self.items) c.script_at-script.result.now (ap length c.as_slice.ensures.value) (omega arith) c.script_at-script.ensures)
    c.join-one.ensures.second.1 c.join-one.ensures.first.1

pub returns-in-Err-clause-ran : goal.returns-in-Err-clause-ran
returns-in-Err-clause-ran g t c =
    let l = last_place c.pop.new.self.items c.args.units.items c.in-Some.unit c.in-Some.ensures.items in
    let r = c.requires.scripts in
    all_back Ran c.args.scripts.now c.args.units.items c.pop.new.self.items c.join-one.result.1.0.items c.push_reserved.new.self.items c.script_at-script.result.now c.in-Some.unit c.join-one.result.0.0
    c.in-Some.ensures.items c.push_reserved.ensures.items
    (script_at c.args.scripts.now (length c.as_slice.result.now) (length c.pop.new.self.items) c.script_at-script.result.now (ap length c.as_slice.ensures.value) (omega arith) c.script_at-script.ensures)
    c.join-one.ensures.second.1 c.join-one.ensures.first.1

pub returns-in-Ok-clause-made : goal.returns-in-Ok-clause-made
returns-in-Ok-clause-made g t c =
    let l = last_place c.pop.new.self.items c.args.units.items c.in-Some.unit c.in-Some.ensures.items in
    let r = c.requires.scripts in
    IfOk-weaker c.join-one.result.1.1 (λ _. HaveMade c.args.scripts.now c.pop.new.self.items c.join-one.result.1.0.items) (λ _. HaveMade c.args.scripts.now c.args.units.items c.push_reserved.new.self.items)
    (λ _ h. all_back (λ s u v. Ran s u v × IsWhole s u v) c.args.scripts.now c.args.units.items c.pop.new.self.items c.join-one.result.1.0.items c.push_reserved.new.self.items c.script_at-script.result.now c.in-Some.unit c.join-one.result.0.0
    c.in-Some.ensures.items c.push_reserved.ensures.items
    (script_at c.args.scripts.now (length c.as_slice.result.now) (length c.pop.new.self.items) c.script_at-script.result.now (ap length c.as_slice.ensures.value) (omega arith) c.script_at-script.ensures)
    h (c.join-one.ensures.first.1, IfOk-at_ok (λ _. IsWhole c.script_at-script.result.now c.in-Some.unit c.join-one.result.0.0) c.in-Ok.is c.join-one.ensures.first.2))
    c.join-one.ensures.second.2
