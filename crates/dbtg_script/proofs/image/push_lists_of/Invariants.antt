use Rattle.std.proofs.Common.{◌≡◌, ◌++◌, take}
use Rattle.std.specs.List.{flat_map}
use Rattle.dbtg_script.specs.Printing.Texts.{list_text}
use Rattle.dbtg_script.proofs.image.push_lists_of.Given as goal

abbrev pub invariant-loop-list : goal.invariant-loop-list
invariant-loop-list l = l.out.items ≡ l.initial.out.items ++ flat_map (list_text l.schema l.name) (take l.list-index l.lists)
