use Rattle.std.proofs.Common.{◌≡◌, ◌++◌, drop, map}
use Rattle.dbtg_program.specs.Sentences.{counters_of}
use Rattle.dbtg_program.specs.Inside.Views.{view_holding}
use Rattle.dbtg_program.proofs.text.push_counters.Given as goal

abbrev pub invariant-loop-sentence : goal.invariant-loop-sentence
invariant-loop-sentence l = l.fields.items ++ counters_of (map view_holding (drop l.sentence-index l.sentences)) ≡ l.initial.fields.items ++ counters_of (map view_holding l.sentences)
