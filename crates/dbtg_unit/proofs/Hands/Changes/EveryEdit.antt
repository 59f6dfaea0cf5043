-- The effect of a statement on the cells is its edits.
use Rattle.dbtg_unit.specs.Database.Statements.StoredFacts.{whole}
use Rattle.std.proofs.Common.{refl, sym, ◌∙◌, ap, ℕ, ◌&&◌, [], ◌∷◌}
use Rattle.dbtg_schema.specs.Lists.{Lists}
use Rattle.dbtg_unit.specs.declared.statement.Erase.{Erase}
use Rattle.dbtg_unit.specs.declared.statement.Statement.TheVariants.{OpenArea, CloseArea, Find, Get, Store, Insert, Remove, Modify, Delete, Keep, Free}
use Rattle.dbtg_unit.specs.declared.unit.Cause.TheVariants.{OwnerHasMembers}
use Rattle.dbtg_unit.specs.declared.unit.Unit.{Unit}
use Rattle.dbtg_unit.specs.Database.State.Base.{Database}
use Rattle.dbtg_unit.specs.Database.State.Cells.{cell}
use Rattle.dbtg_unit.specs.Hands.Edits.{edited_at}
use Rattle.dbtg_unit.specs.Hands.EditsOf.{EffectIsItsEdits, edits_of}
use Rattle.dbtg_unit.specs.Database.Statements.Effect.{delete_checks, deleted, effect_on_cells, has_members, is_plain}
use Rattle.dbtg_unit.specs.Database.State.Legal.{Legal}
use Rattle.dbtg_unit.proofs.Hands.Changes.DeleteCells.{delete_makes}
use Rattle.dbtg_unit.proofs.Hands.Changes.EffectEdits.{Edited, alive, effect_is_its_edits, no_refusal}
use Rattle.dbtg_unit.proofs.Database.Legal.Outcomes.{of_current, of_effect}

module _ (schema : Lists) (capacity : ℕ) (db : Database) (unit : Unit) (legal : Legal schema capacity db) where
  of_delete : (option : Erase) → Edited schema capacity db unit legal (edits_of schema capacity db unit (Delete option)) (effect_on_cells schema capacity db unit (Delete option))
  of_delete option =
      of_current db unit (Edited schema capacity db unit legal (edits_of schema capacity db unit (Delete option))) (no_refusal schema capacity db unit legal (edits_of schema capacity db unit (Delete option)))
      unit.currency.run_unit (delete_checks schema (whole schema capacity db) unit option) (deleted schema capacity db unit option)
      (λ k is checks is_done lawful c.
      let own = alive schema capacity db unit legal k ((is_plain option && has_members schema (whole schema capacity db) k, OwnerHasMembers) ∷ []) checks in
      delete_makes schema capacity db unit option k legal own.0 lawful c
      ∙ ap (λ current. edited_at c (edits_of schema capacity db (record unit { currency = record unit.currency { run_unit = current } }) (Delete option)) (cell schema capacity db c)) (sym is))

pub every_effect_is_its_edits : EffectIsItsEdits
every_effect_is_its_edits schema capacity db unit (Delete option) = λ legal lawful is_done.
    of_effect db unit (Edited schema capacity db unit legal (edits_of schema capacity db unit (Delete option))) (no_refusal schema capacity db unit legal (edits_of schema capacity db unit (Delete option))) schema capacity (Delete option)
    (λ passes_at_once. of_delete schema capacity db unit legal option) is_done lawful
every_effect_is_its_edits schema capacity db unit (OpenArea a mode) = effect_is_its_edits schema capacity db unit (OpenArea a mode) refl
every_effect_is_its_edits schema capacity db unit (CloseArea a) = effect_is_its_edits schema capacity db unit (CloseArea a) refl
every_effect_is_its_edits schema capacity db unit (Find suppress form) = effect_is_its_edits schema capacity db unit (Find suppress form) refl
every_effect_is_its_edits schema capacity db unit (Get r) = effect_is_its_edits schema capacity db unit (Get r) refl
every_effect_is_its_edits schema capacity db unit (Store t items suppress) = effect_is_its_edits schema capacity db unit (Store t items suppress) refl
every_effect_is_its_edits schema capacity db unit (Insert s) = effect_is_its_edits schema capacity db unit (Insert s) refl
every_effect_is_its_edits schema capacity db unit (Remove s) = effect_is_its_edits schema capacity db unit (Remove s) refl
every_effect_is_its_edits schema capacity db unit (Modify t changes) = effect_is_its_edits schema capacity db unit (Modify t changes) refl
every_effect_is_its_edits schema capacity db unit Keep = effect_is_its_edits schema capacity db unit Keep refl
every_effect_is_its_edits schema capacity db unit (Free all) = effect_is_its_edits schema capacity db unit (Free all) refl
