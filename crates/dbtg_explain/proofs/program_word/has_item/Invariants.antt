use Rattle.std.proofs.Common.{◌≡◌, drop}
use Rattle.std.specs.List.{list_any}
use Rattle.std.specs.Str.{bytes_eq}
use Rattle.dbtg_explain.proofs.program_word.has_item.Given as goal

abbrev pub invariant-loop-item : goal.invariant-loop-item
invariant-loop-item l = list_any (λ i. bytes_eq i.name l.name) (drop l.item-index l.items) ≡ list_any (λ i. bytes_eq i.name l.name) l.items
