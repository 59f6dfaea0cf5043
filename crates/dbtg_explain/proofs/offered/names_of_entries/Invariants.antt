use Rattle.std.proofs.Common.{◌≡◌, ◌++◌, drop, map}
use Rattle.dbtg_explain.specs.Offered.{names_of_entries}
use Rattle.dbtg_explain.proofs.offered.names_of_entries.Given as goal

abbrev pub invariant-loop-i : goal.invariant-loop-i
invariant-loop-i l = map (λ name. name.now) l.names.items ++ names_of_entries l.first (map (λ word. word.now) (drop l.i l.words)) ≡ names_of_entries l.first (map (λ word. word.now) l.words)
