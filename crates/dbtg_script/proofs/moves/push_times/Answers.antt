use Rattle.std.proofs.Common.{append_assoc, arith}
use Rattle.std.proofs.lemmas.Grind.{replicate_next}
use Rattle.dbtg_script.proofs.moves.push_times.Goals as goal

pub loop-preserved : goal.loop-preserved
loop-preserved g c = grind (arith, append_assoc, replicate_next)

pub returns : goal.returns
returns g c = grind arith

pub returns-in_err-push : goal.returns-in_err-push
returns-in_err-push g c = grind arith
