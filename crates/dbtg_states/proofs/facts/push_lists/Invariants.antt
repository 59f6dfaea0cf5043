use Rattle.std.proofs.Common.{◌≡◌, ◌++◌, take}
use Rattle.dbtg_states.specs.Named.{list_facts}
use Rattle.dbtg_states.proofs.facts.push_lists.Given as goal

abbrev pub invariant-loop-of_set : goal.invariant-loop-of_set
invariant-loop-of_set l = record { set : l.set ≡ l.of_set-index; facts : l.facts ≡ l.initial.facts ++ list_facts l.stored 0 (take l.of_set-index l.lists) }
