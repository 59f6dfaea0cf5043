use Rattle.std.proofs.lemmas.List.{get_or-replicate}
use Rattle.dbtg_script.proofs.echo.nothing_made.Goals as goal

pub returns-clause-none : goal.returns-clause-none
returns-clause-none c = λ u small. get_or-replicate 256 u 0 0 small
