use Rattle.std.proofs.Common.{◌≡◌, ◌∙◌, ◌++◌, ◌<◌, ◌≤◌, length, map, false, subst, sym, ap, arith, nat_le}
use Rattle.std.proofs.lemmas.Bool.{and_parts, leb-true}
use Rattle.std.proofs.lemmas.List.{length-map}
use Rattle.std.proofs.lemmas.Result.{IfOk-weaker}
use Rattle.dbtg_unit.specs.declared.unit.Entry.{Entry}
use Rattle.dbtg_program.specs.Scripts.{of_script}
use Rattle.dbtg_replay.specs.Ordering.{first_turns}
use Rattle.dbtg_threading.specs.Threading.{IsRunOnThreads}
use Rattle.dbtg_running.specs.ScriptsOnThreads.{IsHistoryOfAll}
use Rattle.dbtg_running.proofs.ScriptsOnThreads.{around_of, history_of_all, in_turn}
use Rattle.dbtg_running.proofs.scripts_on_threads.run_scripts.Goals as goal

pub run_on_threads-requires-clause-count : goal.run_on_threads-requires-clause-count
run_on_threads-requires-clause-count g c κs within =
    let n = length c.args.scripts in
    let parts = and_parts (nat_le 1 n) (nat_le n 8) c.requires.count in
    let many = ap length (c.as_slice.ensures.value ∙ c.in_ok-programs.ensures) ∙ length-map c.args.scripts of_script in
    subst (λ m. (1 ≤ m) × (m ≤ 8)) (sym many) (leb-true 1 n parts.0, leb-true n 8 parts.1)

pub returns-clause-history : goal.returns-clause-history
returns-clause-history g c =
    let schema = c.args.schema.now in
    let scripts = c.args.scripts in
    let first = c.args.first in
    let programs = c.as_slice.ensures.value ∙ c.in_ok-programs.ensures in
    IfOk-weaker c.run_on_threads.result (λ on. IsRunOnThreads schema c.args.capacity c.as_slice.result.now (around_of first) on.turns.items on.given) (λ on. IsHistoryOfAll schema c.args.capacity scripts on.given.run.history on.given.run.image on.given.run.units)
    (λ on run. history_of_all schema c.args.capacity scripts first on.turns.items on.given c.requires.fit c.requires.short (subst (λ ps. IsRunOnThreads schema c.args.capacity ps (around_of first) on.turns.items on.given) programs run))
    c.run_on_threads.ensures

pub returns-clause-turns : goal.returns-clause-turns
returns-clause-turns g c =
    let schema = c.args.schema.now in
    let scripts = c.args.scripts in
    let first = c.args.first in
    let n = length scripts in
    let some : 0 < n = leb-true 1 n (and_parts (nat_le 1 n) (nat_le n 8) c.requires.count).0 in
    let programs = c.as_slice.ensures.value ∙ c.in_ok-programs.ensures in
    IfOk-weaker c.run_on_threads.result (λ on. IsRunOnThreads schema c.args.capacity c.as_slice.result.now (around_of first) on.turns.items on.given) (λ on. map (λ (e : Entry). e.unit) on.given.run.history ≡ first_turns first scripts ++ on.turns.items)
    (λ on run. in_turn schema c.args.capacity scripts first on.turns.items on.given c.requires.fit c.requires.short some (subst (λ ps. IsRunOnThreads schema c.args.capacity ps (around_of first) on.turns.items on.given) programs run))
    c.run_on_threads.ensures
