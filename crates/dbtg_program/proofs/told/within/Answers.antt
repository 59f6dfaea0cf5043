use Rattle.std.proofs.Common.{ap, take, ◌∙◌, ℕ}
use Rattle.std.proofs.lemmas.List.{take_min}
use Rattle.dbtg_script.specs.declared.limits.TheConstants.{SCRIPT_BYTES}
use Rattle.dbtg_program.proofs.told.within.Goals as goal

pub returns-clause-taken : goal.returns-clause-taken
returns-clause-taken c = ap (λ (n : ℕ). take n c.args.bytes.now) c.min.ensures ∙ take_min SCRIPT_BYTES c.args.bytes.now
