use Rattle.std.proofs.Common.{◌≡◌, ◌++◌, ◌∙◌, sym, subst, ap, rules}
use Rattle.dbtg_unit.specs.Inside.Prepared.{erased_edits}
use Rattle.dbtg_unit.specs.Hands.Hands.{Hands}
use Rattle.dbtg_unit.specs.Hands.Making.{CanMake}
use Rattle.dbtg_unit.specs.Hands.Prepared.{Plan, edited_values, guesses_edited, unit_after, values_of}
use Rattle.dbtg_unit.proofs.Hands.Holding.WhileEditing.{can_make_front, can_make_rest, made_append, made_values}
use Rattle.dbtg_unit.proofs.prepared.finish.Goals as goal

pub erase-requires : goal.erase-requires
erase-requires c =
    can_make_front (erased_edits c.prepared.inside.erased) c.prepared.inside.cells c.args.held.now.cells
    (subst (λ (p : Plan). CanMake p.cells c.args.held.now.cells) (sym c.prepared.view_is) c.requires)

pub edit_each_cell-requires : goal.edit_each_cell-requires
edit_each_cell-requires c =
    can_make_rest (erased_edits c.prepared.inside.erased) c.prepared.inside.cells c.args.held.now.cells c.erase.new.held.cells
    (subst (λ (p : Plan). CanMake p.cells c.args.held.now.cells) (sym c.prepared.view_is) c.requires) c.erase.ensures.made

pub returns-clause-cells : goal.returns-clause-cells
returns-clause-cells c =
    let all = erased_edits c.prepared.inside.erased ++ c.prepared.inside.cells in
    ap (λ (h : Hands). values_of h.cells) c.change_unit.ensures.held
    ∙ made_values all c.args.held.now.cells c.edit_each_cell.new.held.cells
    (made_append (erased_edits c.prepared.inside.erased) c.prepared.inside.cells c.args.held.now.cells c.erase.new.held.cells c.edit_each_cell.new.held.cells c.erase.ensures.made c.edit_each_cell.ensures.made)
    ∙ ap (λ (p : Plan). edited_values p.cells (values_of c.args.held.now.cells)) c.prepared.view_is

pub returns-clause-made : goal.returns-clause-made
returns-clause-made c =
    let answer : c.prepared.inside.answer ≡ c.args.prepared.answer = search rules in
    let unit : c.change_unit.new.unit ≡ unit_after c.args.schema.now c.args.prepared c.args.unit.now = search rules in
    let areas : c.change_unit.new.held.areas ≡ c.args.held.now.areas = search rules in
    let guesses : c.change_unit.new.held.guesses ≡ guesses_edited c.args.prepared.unit c.args.held.now.guesses = search rules in
    λ i. record { answer = answer i; unit = unit i; areas = areas i; cells = returns-clause-cells c i; guesses = guesses i }
