use Rattle.std.proofs.Common.{◌≡◌, drop}
use Rattle.std.specs.List.{find}
use Rattle.std.specs.Str.{bytes_eq}
use Rattle.dbtg_program.specs.Sentences.{spelling}
use Rattle.dbtg_program.proofs.word.keyword_in.Given as goal

abbrev pub invariant-loop-keyword : goal.invariant-loop-keyword
invariant-loop-keyword l = find (λ k. bytes_eq l.word (spelling k)) (drop l.keyword-index l.keywords) ≡ find (λ k. bytes_eq l.word (spelling k)) l.keywords
