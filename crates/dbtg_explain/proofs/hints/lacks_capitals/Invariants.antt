use Rattle.std.proofs.Common.{◌≡◌, drop, map}
use Rattle.dbtg_explain.specs.Hints.{lacks_capitals}
use Rattle.dbtg_explain.proofs.hints.lacks_capitals.Given as goal

-- none of those already passed is the word
abbrev pub invariant-loop-thing : goal.invariant-loop-thing
invariant-loop-thing l = lacks_capitals (map (λ thing. thing.now) (drop l.thing-index l.wanted)) l.word ≡ lacks_capitals (map (λ thing. thing.now) l.wanted) l.word
