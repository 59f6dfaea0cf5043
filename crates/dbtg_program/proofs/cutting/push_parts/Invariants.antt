use Rattle.std.proofs.Common.{◌≡◌, ◌++◌, length, map}
use Rattle.dbtg_script.specs.Tokens.{plain, view}
use Rattle.dbtg_program.specs.Sentences.{parts}
use Rattle.dbtg_program.proofs.cutting.push_parts.Given as goal

abbrev pub invariant-loop-rest : goal.invariant-loop-rest
invariant-loop-rest l = map view l.words.items ++ map plain (parts l.rest) ≡ map view l.initial.words.items ++ map plain (parts l.word)

abbrev pub decreases-loop-rest : goal.decreases-loop-rest
decreases-loop-rest l = length l.rest
