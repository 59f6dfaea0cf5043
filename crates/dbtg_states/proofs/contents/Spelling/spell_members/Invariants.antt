use Rattle.std.proofs.Common.{◌≡◌, ◌++◌, map, take}
use Rattle.std.specs.Prelude.{flat_map}
use Rattle.dbtg_unit.specs.Database.State.Base.{sort_key}
use Rattle.dbtg_step.specs.Core.Whole.{state_now}
use Rattle.dbtg_states.proofs.States.ShownParts.{member_numbers}
use Rattle.dbtg_states.proofs.contents.Spelling.spell_members.Given as goal

abbrev pub invariant-loop-key : goal.invariant-loop-key
invariant-loop-key l =
    l.out.items ≡ l.initial.out.items ++ flat_map member_numbers (map (λ k. (k, sort_key l.self.schema.now (state_now l.database).database l.set k)) (take l.key-index l.keys))
