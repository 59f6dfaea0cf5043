use Rattle.std.proofs.Common.{map, take}
use Rattle.dbtg_schema.specs.Inside.NameIndexes.{IsIndexOf}
use Rattle.dbtg_schema.proofs.index.NameIndex.of.Given as goal

abbrev pub invariant-loop-i : goal.invariant-loop-i
invariant-loop-i g l = IsIndexOf l.index (map g.T.HasName.name_of (take l.i l.things))
