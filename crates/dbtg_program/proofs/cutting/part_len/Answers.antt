use Rattle.std.proofs.Common.{◌≡◌, arith}
use Rattle.std.proofs.lemmas.Bool.Decides.{nat_tests}
use Rattle.dbtg_program.proofs.Parts.{first_run, first_sign}
use Rattle.dbtg_program.proofs.cutting.part_len.Goals as goal

pub returns-then-run-eq0-clause-first : goal.returns-then-run-eq0-clause-first
returns-then-run-eq0-clause-first c =
    let r = c.run_len-run.ensures in
    let none : c.run_len-run.result ≡ 0 = grind (arith, nat_tests) in
    first_sign c.run_len-run.result c.args.bytes.now none c.requires r.stops

pub returns-else-run-eq0-clause-first : goal.returns-else-run-eq0-clause-first
returns-else-run-eq0-clause-first c =
    let r = c.run_len-run.ensures in
    let some : c.run_len-run.result ≡ 0 → ⊥ = grind (arith, nat_tests) in
    first_run c.run_len-run.result c.args.bytes.now some r.in_range r.inside r.stops
