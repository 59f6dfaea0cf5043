use Rattle.std.proofs.Common.{◌∙◌, arith}
use Rattle.dbtg_running.proofs.ProgramsRead.{few_programs, runs_on_threads}
use Rattle.dbtg_running.proofs.Shown.{can_be_shown}
use Rattle.dbtg_running.proofs.threads.run_known.Goals as goal

pub run_on_threads-requires-clause-count : goal.run_on_threads-requires-clause-count
run_on_threads-requires-clause-count g c κs within =
    let read = c.in_ok-programs.ensures.read in
    let few = few_programs _ c.args.known.now _ c.as_slice.result.now c.in_ok-programs.programs.texts.items c.requires.counted (read.0, c.as_slice.ensures.value ∙ read.1, read.2) in
    (few.0, few.1)

pub print_audited-requires-clause-few : goal.print_audited-requires-clause-few
print_audited-requires-clause-few g c =
    let read = c.in_ok-programs.ensures.read in
    let few = few_programs _ c.args.known.now _ c.as_slice.result.now c.in_ok-programs.programs.texts.items c.requires.counted (read.0, c.as_slice.ensures.value ∙ read.1, read.2) in
    omega (arith, few.2)

pub print_audited-requires-clause-can : goal.print_audited-requires-clause-can
print_audited-requires-clause-can g c =
    let read = c.in_ok-programs.ensures.read in
    let few = few_programs _ c.args.known.now _ c.as_slice.result.now c.in_ok-programs.programs.texts.items c.requires.counted (read.0, c.as_slice.ensures.value ∙ read.1, read.2) in
    can_be_shown _ _ _ _ c.in_ok-on.on.given c.in_ok-on.ensures.is_run c.args.options.form c.requires.sound (omega (arith, few.1))

pub returns-clause-done : goal.returns-clause-done
returns-clause-done g c =
    let read = c.in_ok-programs.ensures.read in
    runs_on_threads _ c.args.known.now _ c.args.options c.as_slice.result.now c.in_ok-programs.programs.texts.items c.in_ok-on.on.turns.items c.in_ok-on.on.given c.in_ok-print_audited.field-0 c.requires.counted c.requires.schema
    (read.0, c.as_slice.ensures.value ∙ read.1, read.2) c.in_ok-on.ensures c.in_ok-print_audited.ensures
