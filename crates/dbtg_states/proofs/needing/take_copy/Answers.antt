use Rattle.std.proofs.Common.{◌∙◌, ◌++◌, ◌∷◌, [], ap, refl, sym, subst, List, length}
use Rattle.std.specs.Prelude.{is_some}
use Rattle.std.specs.List.{list_all}
use Rattle.std.proofs.lemmas.Bool.{and_from}
use Rattle.std.proofs.lemmas.List.{map-append}
use Rattle.std.proofs.lemmas.List.Folds.{list_all-append}
use Rattle.dbtg_cells.specs.CellNumbers.{is_cell}
use Rattle.dbtg_cells.specs.declared.cell.Cell.{Cell}
use Rattle.dbtg_cells.specs.declared.name.CellName.{CellName}
use Rattle.dbtg_step.specs.Core.Whole.{state_now}
use Rattle.dbtg_unit.specs.Hands.Hands.{Hands}
use Rattle.dbtg_unit.specs.Hands.Local.{AllAgree, names_of}
use Rattle.dbtg_states.proofs.States.InHand.{agree_more, copied_some, not_held}
use Rattle.dbtg_states.proofs.needing.take_copy.Goals as goal

pub push_cell-requires : goal.push_cell-requires
push_cell-requires c =
    not_held c.args.hands.now.held.cells c.args.name (ap is_some (sym c.cell-2.ensures) ∙ copied_some c.cell-2.result ∙ sym c.is_some.ensures ∙ c.if-is_some.false)

pub returns : goal.returns
returns c =
    let d = c.args.database.now in
    let db = (state_now d).database in
    let cells = c.args.hands.now.held.cells in
    let held = c.in_ok-push_cell.ensures.ok in
    let names = c.in_ok-push.ensures.items in
    record {
      names_are = ap (λ (h : Hands). names_of h.cells) held ∙ map-append {B = CellName} (λ (e : CellName × Cell). e.0) cells ((c.args.name, c.in_ok-copy.copy) ∷ []) ∙ ap (λ (l : List CellName). l ++ c.args.name ∷ []) c.requires.names_are ∙ sym names;
      agree = subst (λ (h : Hands). AllAgree d.schema d.capacity db h.cells) (sym held) (agree_more d.schema d.capacity db cells c.args.name c.in_ok-copy.copy c.requires.agree (c.in_ok-copy.ensures ∙ c.in-Some.ensures.shows));
      are_cells = ap (list_all (is_cell d.schema d.capacity)) names ∙ list_all-append (is_cell d.schema d.capacity) c.args.hands.now.names.items (c.args.name ∷ []) ∙ and_from _ _ c.requires.are_cells (and_from _ _ (sym c.in-Some.ensures.there) refl);
      guesses = ap (λ (h : Hands). length h.guesses) held ∙ c.requires.guesses;
    }
