use Rattle.std.proofs.Common.{◌≡◌, ◌++◌, drop, map}
use Rattle.dbtg_explain.specs.Offered.{seen_words}
use Rattle.dbtg_explain.proofs.offered.seen_words.Given as goal

abbrev pub invariant-loop-word : goal.invariant-loop-word
invariant-loop-word l = map (λ word. word.now) l.seen.items ++ seen_words (map (λ word. word.now) (drop l.word-index l.words)) ≡ seen_words (map (λ word. word.now) l.words)
