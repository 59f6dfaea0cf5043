use Rattle.std.proofs.Common.{◌≡◌, ◌++◌, drop, false}
use Rattle.std.specs.Prelude.{option_map}
use Rattle.dbtg_script.specs.Tokens.{tokens}
use Rattle.dbtg_trace.specs.Answers.{values_in}
use Rattle.dbtg_trace.proofs.answer.values_in.Given as goal

abbrev pub invariant-loop-item : goal.invariant-loop-item
invariant-loop-item l = option_map (λ more. l.values.items ++ more) (values_in (drop l.item-index l.items) (tokens false l.left.rest.now)) ≡ values_in l.items (tokens false l.initial.left.rest.now)
