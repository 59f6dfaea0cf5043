use Rattle.std.proofs.Common.{◌≡◌, drop, map}
use Rattle.dbtg_explain.specs.Offered.{type_entry}
use Rattle.dbtg_explain.proofs.offered.type_entry.Given as goal

-- no entry already passed is that of the record type
abbrev pub invariant-loop-i : goal.invariant-loop-i
invariant-loop-i l = type_entry l.rtype (map (λ word. word.now) (drop l.i l.words)) ≡ type_entry l.rtype (map (λ word. word.now) l.words)
