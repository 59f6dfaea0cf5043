use Rattle.dbtg_interned.specs.Arrays.{elements}
use Rattle.dbtg_interned.proofs.Several.{AreChanged}
use Rattle.dbtg_interned.proofs.arrays.Arrays.with_elements.Given as goal

abbrev pub invariant-loop-change : goal.invariant-loop-change
invariant-loop-change l = AreChanged l.initial.self l.self l.changes l.change-index (elements l.initial.self l.array) l.root
