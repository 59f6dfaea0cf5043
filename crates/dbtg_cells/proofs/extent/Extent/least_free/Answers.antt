use Rattle.std.proofs.Common.{◌-◌, ◌+◌, ◌∙◌, ap, sym, subst, length, slice_get}
use Rattle.std.specs.List.{range_with_len}
use Rattle.dbtg_schema.specs.Lookups.{first}
use Rattle.dbtg_cells.specs.Numbers.{numbers_where, is_free}
use Rattle.dbtg_cells.specs.Inside.Numbering.{AreListed, all_numbers}
use Rattle.dbtg_cells.proofs.NumbersLeftOut.{least_listed, none_listed, all_numbered}
use Rattle.dbtg_cells.proofs.extent.Extent.least_free.Goals as goal

pub returns-in-Some : goal.returns-in-Some
returns-in-Some c =
    let E = c.deref-lists.result.now in
    let L = subst AreListed (sym c.deref-lists.ensures) c.self.invariant in
    least_listed E.free.items _ c.in-Some.number.now (c.in-Some.ensures.value ∙ ap (λ l. slice_get l 0) c.deref.ensures.value)
    ∙ ap first (all_numbered _ _ _ E.capacity L.0).free_is
    ∙ ap (λ l. first (numbers_where is_free (all_numbers l))) c.deref-lists.ensures
    ∙ ap (λ e. first (numbers_where is_free e.numbers)) c.self.view_is

pub returns-in-None : goal.returns-in-None
returns-in-None c =
    let E = c.deref-lists.result.now in
    let L = subst AreListed (sym c.deref-lists.ensures) c.self.invariant in
    c.first_without_entry.ensures
    ∙ ap (λ l. first (range_with_len (length l + 1) (E.capacity - length l))) c.as_slice.ensures.value
    ∙ none_listed E.free.items _ (c.in-None.ensures.value ∙ ap (λ l. slice_get l 0) c.deref.ensures.value)
    ∙ ap first (all_numbered _ _ _ E.capacity L.0).free_is
    ∙ ap (λ l. first (numbers_where is_free (all_numbers l))) c.deref-lists.ensures
    ∙ ap (λ e. first (numbers_where is_free e.numbers)) c.self.view_is
