use Rattle.std.proofs.Common.{◌≡◌, map, drop}
use Rattle.dbtg_schema.specs.Texts.Spelling.{among}
use Rattle.dbtg_program.specs.Sentences.{spelling}
use Rattle.dbtg_program.proofs.word.is_among.Given as goal

abbrev pub invariant-loop-keyword : goal.invariant-loop-keyword
invariant-loop-keyword l = among l.word (map spelling (drop l.keyword-index l.keywords)) ≡ among l.word (map spelling l.keywords)
