use Rattle.std.proofs.Common.{◌≡◌, ◌≤◌, ◌∙◌, length, sym, ap, subst, arith, nat_le}
use Rattle.std.proofs.lemmas.Bool.{and_parts, leb-true}
use Rattle.dbtg_script.specs.Statements.{script}
use Rattle.dbtg_command.specs.Refusals.{is_count}
use Rattle.dbtg_replay.proofs.Public.{can_show}
use Rattle.dbtg_running.proofs.SavedTurns.{runs_on_threads, sequential}
use Rattle.dbtg_running.proofs.ScriptsOnThreads.{AreShort, short_scripts}
use Rattle.dbtg_running.proofs.scripts_on_threads.threads_known.Goals as goal

pub run_scripts-requires-clause-count : goal.run_scripts-requires-clause-count
run_scripts-requires-clause-count g c κs within = ap is_count c.in_ok-statements.ensures.many ∙ c.requires.counted

pub run_scripts-requires-clause-short : goal.run_scripts-requires-clause-short
run_scripts-requires-clause-short g c κs within =
    let read = c.in_ok-statements.ensures.read in
    subst AreShort (sym read.1) (short_scripts c.args.known.now read.0.texts read.0.accepted)

pub print_audited-requires : goal.print_audited-requires
print_audited-requires g c =
    let scripts = c.in_ok-statements.field-0.statements in
    let given = c.in_ok-on.on.given.run in
    let n = length scripts in
    let right = ap is_count c.in_ok-statements.ensures.many ∙ c.requires.counted in
    let most : n ≤ 8 = leb-true n 8 (and_parts (nat_le 1 n) (nat_le n 8) right).1 in
    can_show c.args.known.now c.args.capacity scripts given c.args.form c.requires.sound (omega (arith, most)) (c.in_ok-statements.ensures.fitting c.requires.sound)
    (sequential c.args.known.now c.args.capacity scripts given.history given.image given.units c.in_ok-on.ensures.history)

pub returns-clause-done : goal.returns-clause-done
returns-clause-done g c =
    let read = c.in_ok-statements.ensures.read in
    let shown = c.as_slice.ensures ∙ read.2 in
    let on = c.in_ok-on in
    let said = c.in_ok-print_audited.ensures in
    runs_on_threads _ c.args.known.now _ c.args.first c.args.form c.args.capacity _ _ c.requires.counted c.requires.read read.0 record {
      given = on.on.given.run;
      is_history = rw (sym read.1) on.ensures.history;
      is_text = rw (sym shown) said.printed;
      behind = on.on.turns.items;
      in_turn = rw (sym read.1) on.ensures.turns;
      are_turns = said.turns;
    }
