use Rattle.std.proofs.Common.{◌≡◌, ◌+◌, ◌∷◌, [], ◌∙◌, refl, sym, subst, ℕ, List, drop}
use Rattle.std.specs.List.{flat_map}
use Rattle.std.proofs.lemmas.List.{drop_all}
use Rattle.dbtg_unit.specs.declared.edit.CellEdit.{CellEdit}
use Rattle.dbtg_unit.specs.Hands.Making.{AreMade, CanEditHeld, CanMake}
use Rattle.dbtg_unit.proofs.Public.{can_make_rest, made_append}
use Rattle.dbtg_plan.specs.Inside.Store.{opening_edit}
use Rattle.dbtg_plan.proofs.Store.StoreSteps.{left_next}
use Rattle.dbtg_plan.proofs.storing.open_occurrences.Goals as goal

pub loop-set-init : goal.loop-set-init
loop-set-init c =
    let opens : List ℕ → List CellEdit = flat_map (λ s. opening_edit c.args.key.now s ∷ []) in
    let cells = c.args.held.now.cells in
    record {
      can_make = subst (λ (sets : List ℕ). CanMake (opens sets) cells) (sym c.owned_sets-set-items.ensures) c.requires;
      leads = λ new made. subst (λ (sets : List ℕ). AreMade (opens sets) cells new) c.owned_sets-set-items.ensures made;
      areas = refl;
      guesses = refl;
    }

pub edit_held-requires : goal.edit_held-requires
edit_held-requires c =
    let sets = c.owned_sets-set-items.result.now in
    let i = c.loop-set.set-index in
    let cells = c.loop-set.held.cells in
    let can : CanMake (flat_map (λ s. opening_edit c.args.key.now s ∷ []) (c.set-item.result ∷ drop (i + 1) sets)) cells
    = subst (λ (left : List ℕ). CanMake (flat_map (λ s. opening_edit c.args.key.now s ∷ []) left) cells) (left_next sets i c.set-item.result c.loop-set-test.true c.set-item.is) c.loop-set.invariant.can_make in
    subst (λ (e : CellEdit). CanEditHeld e cells) (sym c.opening_edit.ensures) can.0

pub loop-set-preserved : goal.loop-set-preserved
loop-set-preserved c =
    let sets = c.owned_sets-set-items.result.now in
    let i = c.loop-set.set-index in
    let cells = c.loop-set.held.cells in
    let next = c.edit_held.new.held.cells in
    let opens : List ℕ → List CellEdit = flat_map (λ s. opening_edit c.args.key.now s ∷ []) in
    let first : CellEdit = opening_edit c.args.key.now c.set-item.result in
    let left : drop i sets ≡ c.set-item.result ∷ drop (i + 1) sets = left_next sets i c.set-item.result c.loop-set-test.true c.set-item.is in
    let made : AreMade (first ∷ []) cells next = subst (λ (e : CellEdit). AreMade (e ∷ []) cells next) c.opening_edit.ensures c.edit_held.ensures.made in
    record {
      can_make = can_make_rest (first ∷ []) (opens (drop (i + 1) sets)) cells next (subst (λ (ss : List ℕ). CanMake (opens ss) cells) left c.loop-set.invariant.can_make) made;
      leads = λ new more. c.loop-set.invariant.leads new (subst (λ (ss : List ℕ). AreMade (opens ss) cells new) (sym left) (made_append (first ∷ []) (opens (drop (i + 1) sets)) cells next new made more));
      areas = c.edit_held.ensures.areas ∙ c.loop-set.invariant.areas;
      guesses = c.edit_held.ensures.guesses ∙ c.loop-set.invariant.guesses;
    }

pub returns-clause-made : goal.returns-clause-made
returns-clause-made c =
    let sets = c.owned_sets-set-items.result.now in
    let cells = c.loop-set.held.cells in
    c.loop-set.invariant.leads cells
    (subst (λ (left : List ℕ). AreMade (flat_map (λ s. opening_edit c.args.key.now s ∷ []) left) cells cells) (sym (drop_all c.loop-set.set-index sets c.loop-set-test.false)) refl)
