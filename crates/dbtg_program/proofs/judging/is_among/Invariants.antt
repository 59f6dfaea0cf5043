use Rattle.std.proofs.Common.{◌≡◌, map, drop}
use Rattle.dbtg_schema.specs.Texts.Spelling.{among}
use Rattle.dbtg_program.proofs.judging.is_among.Given as goal

abbrev pub invariant-loop-counter : goal.invariant-loop-counter
invariant-loop-counter l = among l.name (map (λ c. c.name) (drop l.counter-index l.counters)) ≡ among l.name (map (λ c. c.name) l.counters)
