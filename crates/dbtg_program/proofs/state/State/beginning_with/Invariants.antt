use Rattle.std.proofs.Common.{◌≡◌, map, take}
use Rattle.dbtg_program.specs.Values.{empty_value}
use Rattle.dbtg_program.proofs.state.State.beginning_with.Given as goal

abbrev pub invariant-loop-field : goal.invariant-loop-field
invariant-loop-field l = l.values.items ≡ map (λ f. empty_value f.picture) (take l.field-index l.fields)
