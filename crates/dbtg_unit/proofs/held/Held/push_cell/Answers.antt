use Rattle.std.proofs.Common.{◌∙◌, sym, ap, subst, ◌++◌, ◌∷◌, [], length, arith}
use Rattle.std.proofs.lemmas.List.{length-append}
use Rattle.std.specs.List.{list_any}
use Rattle.indexmap.specs.IndexMap.{get}
use Rattle.dbtg_unit.specs.declared.names.NameKey.{NameKey}
use Rattle.dbtg_cells.specs.Names.{name_eq}
use Rattle.dbtg_unit.specs.Inside.HeldNames.{AreNumbered, IsIndexOf, entered, first_count, key_eq, name_key, past}
use Rattle.dbtg_unit.proofs.Hands.Holding.NamesAndCells.{pushed}
use Rattle.dbtg_unit.proofs.Hands.Holding.IndexOfNames.{pushed_index, stands_nowhere, when_ok}
use Rattle.dbtg_unit.proofs.Hands.Holding.NumberedNames.{numbered_more}
use Rattle.dbtg_unit.proofs.held.Held.push_cell.Goals as goal

pub returns-clause-ok : goal.returns-clause-ok
returns-clause-ok c =
    let names = c.push_reserved-2.ensures.items ∙ ap (λ ns. ns ++ c.args.name ∷ []) c.reserve.ensures.items in
    let cells = c.push_reserved.ensures.items ∙ ap (λ cs. cs ++ c.args.cell ∷ []) c.reserve-else-is_err.ensures.items in
    let held = pushed c.self.inside.names.items c.push_reserved-2.new.self.items c.self.inside.cells.items c.push_reserved.new.self.items c.args.name c.args.cell c.self.invariant.0 names cells
    ∙ ap (λ h. h.cells ++ (c.args.name, c.args.cell) ∷ []) c.self.view_is in
    λ i. record { areas = (c.self.view_is i).areas; cells = held i; guesses = (c.self.view_is i).guesses }

pub invariant_of-self-2 : goal.invariant_of-self-2
invariant_of-self-2 c =
    let index = get key_eq c.self.inside.index in
    let old = c.self.inside.names.items in
    let name = c.args.name in
    let fresh = stands_nowhere name 0 old c.self.inside.cells.items c.self.invariant.0 (ap (λ h. list_any (λ e. name_eq name e.0) h.cells) c.self.view_is ∙ c.requires) in
    let names = c.push_reserved-2.ensures.items ∙ ap (λ ns. ns ++ name ∷ []) c.reserve.ensures.items in
    let cells = c.push_reserved.ensures.items ∙ ap (λ cs. cs ++ c.args.cell ∷ []) c.reserve-else-is_err.ensures.items in
    let enters = when_ok c.enter.result (sym c.is_err-2.ensures.value ∙ c.if-is_err-3.false) c.enter.ensures.ok in
    let count = first_count c.self.inside.first in
    let enters_behind = λ (q : NameKey). enters q ∙ (λ i. entered index (c.count.ensures i) (name_key name) ((c.len.ensures.value ∙ ap length c.reserve.ensures.items) i) q) in (
      omega (
        arith,
        c.self.invariant.0,
        ap length names,
        ap length cells,
        length-append old (name ∷ []),
        length-append c.self.inside.cells.items (c.args.cell ∷ []),
      ),
      subst (IsIndexOf (get key_eq c.enter.new.index) count) (sym names) (pushed_index count index (get key_eq c.enter.new.index) old name fresh c.self.invariant.1 enters_behind),
      subst (AreNumbered c.self.inside.first) (sym names) (numbered_more c.self.inside.first old name c.self.invariant.2),
    )

pub enter-requires : goal.enter-requires
enter-requires c =
    let name = c.args.name in
    let fresh = stands_nowhere name 0 c.self.inside.names.items c.self.inside.cells.items c.self.invariant.0 (ap (λ h. list_any (λ e. name_eq name e.0) h.cells) c.self.view_is ∙ c.requires) in
    c.self.invariant.1 name ∙ ap (past (first_count c.self.inside.first)) fresh
