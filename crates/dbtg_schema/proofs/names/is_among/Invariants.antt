use Rattle.std.proofs.Common.{◌≡◌, map, drop}
use Rattle.dbtg_schema.specs.Texts.Spelling.{among}
use Rattle.dbtg_schema.proofs.names.is_among.Given as goal

abbrev pub invariant-loop-other : goal.invariant-loop-other
invariant-loop-other l = among l.word (map (λ w. w.now) (drop l.other-index l.words)) ≡ among l.word (map (λ w. w.now) l.words)
