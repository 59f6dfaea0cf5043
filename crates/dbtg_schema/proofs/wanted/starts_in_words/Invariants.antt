use Rattle.std.proofs.Common.{◌≡◌, map, take}
use Rattle.dbtg_schema.specs.Inside.Automaton.{view_start}
use Rattle.dbtg_schema.specs.Texts.Wanted.{in_words}
use Rattle.dbtg_schema.proofs.wanted.starts_in_words.Given as goal

abbrev pub invariant-loop-start : goal.invariant-loop-start
invariant-loop-start l = map (λ thing. thing.now) l.list.items ≡ map (λ s. in_words s.kind s.role) (map view_start (take l.start-index l.start-items))
