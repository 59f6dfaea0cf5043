use Rattle.std.proofs.Common.{◌≡◌}
use Rattle.std.specs.Vec.Iter.{into_iter_items}
use Rattle.dbtg_step.specs.Inside.Reversible.{with_copies}
use Rattle.dbtg_step.proofs.way_back.put_each_back.Given as goal

-- the copies that are left lead to where all lead
abbrev pub invariant-loop-name : goal.invariant-loop-name
invariant-loop-name l = record {
  leads : with_copies (into_iter_items l.name-iterator) l.held.cells ≡ with_copies l.fn.copies l.initial.held.cells;
  rest : l.held ≡ record l.initial.held { cells = l.held.cells };
}
