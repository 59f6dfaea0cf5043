use Rattle.std.proofs.Common.{◌≡◌, map, take}
use Rattle.dbtg_script.specs.Inside.Automaton.{view_start}
use Rattle.dbtg_script.specs.Wanted.{in_words}
use Rattle.dbtg_script.proofs.wanted.starts_in_words.Given as goal

abbrev pub invariant-loop-start : goal.invariant-loop-start
invariant-loop-start l = map (λ thing. thing.now) l.list.items ≡ map (λ s. in_words l.fn.picture s.kind s.role) (map view_start (take l.start-index l.start-items))
