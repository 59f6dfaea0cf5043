use Rattle.std.proofs.Common.{take}
use Rattle.dbtg_schema.specs.Inside.NameIndexes.{AreItemIndexes}
use Rattle.dbtg_schema.proofs.index.item_indexes.Given as goal

abbrev pub invariant-loop-rtype : goal.invariant-loop-rtype
invariant-loop-rtype l = AreItemIndexes l.out.items (take l.rtype-index l.types)
