use Rattle.std.proofs.Common.{◌≡◌, List, ◌++◌, drop}
use Rattle.dbtg_schema.specs.Structure.{item_list}
use Rattle.dbtg_cells.specs.declared.key.Value.{Value}
use Rattle.dbtg_script.specs.Inside.Usual.{AreAssigned, words_left}
use Rattle.dbtg_script.proofs.usual.usual_values.Given as goal

-- what the words that are left give to the items that are left, they all give to all
abbrev pub invariant-loop-i : goal.invariant-loop-i
invariant-loop-i l = record {
  items_are : l.items ≡ item_list l.schema l.fn.rtype;
  so_far : (more : List Value) → AreAssigned l.schema l.fn.rtype l.i (drop l.i l.items) (words_left l.left) more → AreAssigned l.schema l.fn.rtype 0 l.items (words_left l.initial.left) (l.values.items ++ more);
}
