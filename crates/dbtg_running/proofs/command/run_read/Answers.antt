use Rattle.std.proofs.Common.{◌∙◌, arith}
use Rattle.dbtg_running.proofs.ProgramsRead.{few_programs, run_is_read}
use Rattle.dbtg_running.proofs.Shown.{can_be_shown}
use Rattle.dbtg_running.proofs.command.run_read.Goals as goal

pub print_run-requires-clause-can : goal.print_run-requires-clause-can
print_run-requires-clause-can g c =
    let read = c.requires.programs in
    let few = few_programs _ c.args.known.now _ c.as_slice.result.now c.args.programs.now.texts.items c.requires.counted (read.0, c.as_slice.ensures.value ∙ read.1, read.2) in
    can_be_shown _ _ _ _ c.in_ok-given.given c.in_ok-given.ensures c.args.options.form c.requires.sound (omega (arith, few.1))

pub returns-clause-done : goal.returns-clause-done
returns-clause-done g c =
    let programs = c.requires.programs in
    run_is_read _ c.args.known.now _ _ c.args.options c.as_slice.result.now c.args.programs.now.texts.items c.in_ok-turns.turns c.in_ok-given.given c.in_ok-print_run.field-0 c.requires.counted c.requires.schema
    (programs.0, c.as_slice.ensures.value ∙ programs.1, programs.2) c.in_ok-turns.ensures.read c.in_ok-given.ensures c.in_ok-print_run.ensures
