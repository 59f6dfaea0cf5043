use Rattle.std.proofs.Common.{◌≡◌, ◌∙◌, sym, ap, subst, ◌++◌, ◌∷◌, [], length, arith}
use Rattle.std.proofs.lemmas.Grind.{common_steps}
use Rattle.std.proofs.lemmas.List.{length-append}
use Rattle.indexmap.specs.IndexMap.{get}
use Rattle.dbtg_unit.specs.declared.names.NameKey.{NameKey}
use Rattle.dbtg_unit.specs.Inside.HeldNames.{AreNumbered, IsIndexOf, first_count, key_eq, left, name_key, up_to}
use Rattle.dbtg_unit.proofs.Hands.Holding.NamesAndCells.{popped}
use Rattle.dbtg_unit.proofs.Hands.Holding.IndexOfNames.{popped_index}
use Rattle.dbtg_unit.proofs.Hands.Holding.NumberedNames.{index_less, numbered_less}
use Rattle.dbtg_unit.proofs.held.Held.pop_cell.Goals as goal

pub returns-clause-cells : goal.returns-clause-cells
returns-clause-cells c =
    sym (ap (λ h. h.cells) c.self.view_is)
    ∙ popped c.pop.new.self.items c.self.inside.names.items c.pop-2.new.self.items c.self.inside.cells.items c.in_ok-name.name c.in_ok-cell.cell c.self.invariant.0 c.in_ok-name.ensures.items c.in_ok-cell.ensures.items

pub invariant_of-self-2 : goal.invariant_of-self-2
invariant_of-self-2 c =
    let index = get key_eq c.self.inside.index in
    let names = c.pop.new.self.items in
    let name = c.in_ok-name.name in
    let first = c.self.inside.first in
    let count = first_count first in
    let before : IsIndexOf index count (names ++ name ∷ []) = subst (IsIndexOf index count) c.in_ok-name.ensures.items c.self.invariant.1 in
    let numbered : AreNumbered first (names ++ name ∷ []) = subst (AreNumbered first) c.in_ok-name.ensures.items c.self.invariant.2 in
    let leaves = λ (q : NameKey). c.leave.ensures q ∙ (λ i. left index (c.count.ensures i) (name_key name) (c.len-left.ensures.value i) q) in
    let kept : c.keep.new.self ≡ up_to (length names) first = c.keep.ensures ∙ ap (λ k. up_to k first) c.len-left.ensures.value in (
      omega (
        arith,
        c.self.invariant.0,
        ap length c.in_ok-name.ensures.items,
        ap length c.in_ok-cell.ensures.items,
        length-append names (name ∷ []),
        length-append c.pop-2.new.self.items (c.in_ok-cell.cell ∷ []),
      ),
      subst (λ f. IsIndexOf (get key_eq c.leave.new.index) (first_count f) names) (sym kept) (index_less (get key_eq c.leave.new.index) first names (popped_index count index (get key_eq c.leave.new.index) names name before leaves)),
      subst (λ f. AreNumbered f names) (sym kept) (numbered_less first names name numbered),
    )

pub returns-clause-none : goal.returns-clause-none
returns-clause-none c = grind (arith, common_steps)

pub returns-clause-rest : goal.returns-clause-rest
returns-clause-rest c = grind (arith, common_steps)

pub returns-in_err-cell-clause-cells : goal.returns-in_err-cell-clause-cells
returns-in_err-cell-clause-cells c = grind (arith, common_steps)

pub returns-in_err-cell-clause-none : goal.returns-in_err-cell-clause-none
returns-in_err-cell-clause-none c = grind (arith, common_steps)

pub returns-in_err-cell-clause-rest : goal.returns-in_err-cell-clause-rest
returns-in_err-cell-clause-rest c = grind (arith, common_steps)

pub returns-in_err-name-clause-cells : goal.returns-in_err-name-clause-cells
returns-in_err-name-clause-cells c = grind (arith, common_steps)

pub returns-in_err-name-clause-none : goal.returns-in_err-name-clause-none
returns-in_err-name-clause-none c = grind (arith, common_steps)

pub returns-in_err-name-clause-rest : goal.returns-in_err-name-clause-rest
returns-in_err-name-clause-rest c = grind (arith, common_steps)
