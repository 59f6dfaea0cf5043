use Rattle.std.proofs.Common.{rules, ap, ◌∙◌}
use Rattle.std.proofs.lemmas.Fn.{always_returns_same}
use Rattle.std.specs.Prelude.{None, Vec, filter, take}
use Rattle.std.specs.List.{find}
use Rattle.std.specs.declared.alloc.Global.{Global}
use Rattle.dbtg_cells.specs.declared.name.CellName.{CellName}
use Rattle.dbtg_cells.specs.Names.{name_below}
use Rattle.dbtg_erase.specs.NextCell.{first_missing, least_name}
use Rattle.dbtg_erase.proofs.SortedNames.{names_rank, sorted_around}
use Rattle.dbtg_erase.proofs.around.around.Goals as goal

pub returns : goal.returns
returns c =
    let sorted = c.sort_unstable_by.ensures.sorted name_below names_rank (always_returns_same _ _ _ (λ a r f k. search rules)) in
    let unsorted = c.in_ok-names.names.items in
    let names = c.sort_unstable_by.new.self.items in
    record {
      in_order = λ p.
          ap (λ (v : Vec CellName Global). find p v.items) c.new.ensures.names
          ∙ sorted_around unsorted names c.sort_unstable_by.ensures.permutation sorted p
          ∙ ap (λ cs. least_name None (filter p cs)) c.in_ok-names.ensures;
      passed = ap (λ n. first_missing c.args.held.now (take n c.new.result.names.items)) c.new.ensures.passed;
    }
