use Rattle.std.proofs.Common.{◌≡◌, ◌++◌, drop, map}
use Rattle.dbtg_program.specs.Sentences.{counters_of}
use Rattle.dbtg_program.specs.Inside.Views.{view_holding}
use Rattle.dbtg_program.proofs.told.push_counter_names.Given as goal

abbrev pub invariant-loop-sentence : goal.invariant-loop-sentence
invariant-loop-sentence l =
    map (λ name. name.now) l.names.items ++ map (λ c. c.name) (counters_of (map view_holding (drop l.sentence-index l.sentences)))
    ≡ map (λ name. name.now) l.initial.names.items ++ map (λ c. c.name) (counters_of (map view_holding l.sentences))
