use Rattle.std.proofs.Common.{◌≡◌, ◌↔◌, ◌<◌, ◌≤◌, ◌∙◌, length, refl, sym, subst, arith}
use Rattle.std.proofs.lemmas.Result.{IfErr-weaker, IfOk-weaker}
use Rattle.dbtg_run.specs.declared.settled.Fault.TheVariants.{Missing}
use Rattle.dbtg_run.specs.Running.{HaveMade, HaveRun, IsRun}
use Rattle.dbtg_run.specs.Settling.{IsSettled}
use Rattle.dbtg_run.proofs.Units.Abreast.{have_not_run, where_ok}
use Rattle.dbtg_run.proofs.threads.run_units.Goals as goal

pub returns-then-as_slice-db-clause-err : goal.returns-then-as_slice-db-clause-err
returns-then-as_slice-db-clause-err g c = (refl, have_not_run c.args.scripts.now c.args.units.items)

pub returns-then-is_err-clause-err : goal.returns-then-is_err-clause-err
returns-then-is_err-clause-err g c = (refl, c.run_all-units.ensures.ran)

pub returns-clause-ok : goal.returns-clause-ok
returns-clause-ok g c =
    let made = where_ok c.run_all-units.result.1 (HaveMade c.args.scripts.now c.args.units.items c.run_all-units.result.0.items) (sym c.is_err.ensures.value ∙ c.if-is_err.false) c.run_all-units.ensures.made in
    IfOk-weaker c.settle.result (λ settled. IsSettled c.args.db c.run_all-units.result.0.items settled) (λ settled. IsRun c.args.db c.args.scripts.now c.args.units.items settled)
    (λ settled ends. record { after = c.run_all-units.result.0.items; made = made; ends = ends }) c.settle.ensures.ok

pub returns-clause-err : goal.returns-clause-err
returns-clause-err g c =
    IfErr-weaker c.settle.result _ (λ back. (back.db ≡ c.args.db) × HaveRun c.args.scripts.now c.args.units.items back.units.items)
    (λ back same. (same.0, subst (HaveRun c.args.scripts.now c.args.units.items) (sym (λ j. (same.1 j).items)) c.run_all-units.ensures.ran)) c.settle.ensures.err

pub returns-then-is_err-clause-missing : goal.returns-then-is_err-clause-missing
returns-then-is_err-clause-missing g c =
    let enough : c.args.db.about.units ≤ length c.args.units.items = subst (λ us. c.args.db.about.units ≤ length us) c.as_slice.ensures.value c.if-as_slice-db.false in
    (λ same. absurd (cc), λ few. absurd (omega arith))

pub returns-clause-missing : goal.returns-clause-missing
returns-clause-missing g c =
    let count = c.run_all-units.ensures.ran.count in
    IfErr-weaker c.settle.result _ (λ back. (back.fault ≡ Missing) ↔ (length c.args.units.items < c.args.db.about.units))
    (λ back says. (λ same. subst (λ n. n < c.args.db.about.units) count (says.0 same), λ few. says.1 (subst (λ n. n < c.args.db.about.units) (sym count) few))) c.settle.ensures.missing

pub returns-clause-unmade : goal.returns-clause-unmade
returns-clause-unmade g c =
    let enough : c.args.db.about.units ≤ length c.args.units.items = subst (λ us. c.args.db.about.units ≤ length us) c.as_slice.ensures.value c.if-as_slice-db.false in
    let count = c.run_all-units.ensures.ran.count in
    IfErr-weaker c.settle.result _ (λ back. back.fault ≡ Missing → back.units ≡ c.args.units) (λ back says same. let few = says.0 same in absurd (omega arith)) c.settle.ensures.missing
