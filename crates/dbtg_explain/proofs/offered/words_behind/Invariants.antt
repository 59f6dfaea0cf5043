use Rattle.std.proofs.Common.{◌≡◌, ◌++◌, drop, map}
use Rattle.dbtg_explain.specs.Offered.{words_behind}
use Rattle.dbtg_explain.proofs.offered.words_behind.Given as goal

abbrev pub invariant-loop-i : goal.invariant-loop-i
invariant-loop-i l = map (λ name. name.now) l.names.items ++ words_behind l.first (map (λ word. word.now) (drop l.i l.words)) ≡ words_behind l.first (map (λ word. word.now) l.words)
