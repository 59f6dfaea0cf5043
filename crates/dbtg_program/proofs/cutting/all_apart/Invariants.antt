use Rattle.std.proofs.Common.{◌≡◌, ◌++◌, drop, map}
use Rattle.std.specs.List.{flat_map}
use Rattle.dbtg_script.specs.Tokens.{view}
use Rattle.dbtg_program.specs.Sentences.{apart}
use Rattle.dbtg_program.proofs.cutting.all_apart.Given as goal

abbrev pub invariant-loop-word : goal.invariant-loop-word
invariant-loop-word l = map view l.all.items ++ flat_map apart (map view (drop l.word-index l.words)) ≡ flat_map apart (map view l.words)
