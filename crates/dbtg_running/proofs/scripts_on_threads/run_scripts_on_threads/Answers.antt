use Rattle.std.proofs.lemmas.Result.{err_from_is_err_and}
use Rattle.dbtg_command.specs.declared.order.OrderKind.TheVariants.{Serial}
use Rattle.dbtg_running.proofs.scripts_on_threads.run_scripts_on_threads.Goals as goal

pub returns-in_err-known-clause-refused : goal.returns-in_err-known-clause-refused
returns-in_err-known-clause-refused g c =
    let told = err_from_is_err_and c.from_residual.result c.from_residual.ensures.1 in
    rw (told.1, told.2) (c.in_err-known.ensures.refused Serial)
