-- Where all units have come: their history is audited, and what it leads to is what they say.
use Rattle.std.proofs.Common.{◌≡◌, ℕ, zero, suc, ◌-◌, ◌<◌, List, Option, Some, None, sym, ap, ◌∙◌, subst, arith}
use Rattle.std.specs.Prelude.{slice_get}
use Rattle.dbtg_schema.specs.Lists.{Lists}
use Rattle.dbtg_unit.specs.declared.unit.Entry.{Entry}
use Rattle.dbtg_unit.specs.declared.unit.Unit.{Unit as UnitValue}
use Rattle.dbtg_unit.specs.Database.State.Image.{Image}
use Rattle.dbtg_unit.specs.Database.Laws.Replay.{IsHistoryOf, State, entries_of, opening_state, replay as replay_entries, unit_of}
use Rattle.dbtg_step.specs.Core.Audit.{IsAudited, LeadsTo}
use Rattle.dbtg_run.specs.declared.view.About.{About}
use Rattle.dbtg_run.specs.Views.{Has}
use Rattle.dbtg_run.specs.UnitView.{UnitView}
use Rattle.dbtg_run.specs.Inside.Settling.{AreAll}

at_number : (state : State) (n : ℕ) → 0 < n → unit_of state n ≡ slice_get state.units (n - 1)
at_number state zero l = absurd (omega arith)
at_number state (suc n) l = let e : n ≡ suc n - 1 = omega arith in ap (slice_get state.units) e

module _ (about : About) (schema : Lists) (same : about.schema.value ≡ schema) (us : List UnitView) (A : AreAll about us) (history : List Entry) (history_is : history ≡ A.log) where
  is_history : IsHistoryOf schema about.capacity about.units history
  is_history = subst (λ (s : Lists). IsHistoryOf s about.capacity about.units history) same (subst (IsHistoryOf about.schema.value about.capacity about.units) (sym history_is) A.history)

  pub not_refused : (found : Option (Image × List UnitValue)) → IsAudited schema about.capacity about.units history found → found ≡ None → ⊥
  not_refused found audited none = subst (IsAudited schema about.capacity about.units history) none audited is_history

  pub audited : (found : Option (Image × List UnitValue)) (image : Image) (after : List UnitValue) → IsAudited schema about.capacity about.units history found → found ≡ Some (image, after) → LeadsTo schema about.capacity about.units history image after
  audited found image after a some_is = subst (IsAudited schema about.capacity about.units history) some_is a

  pub journal_is : (u : UnitView) → Has u us → entries_of u.unit.number history ≡ u.journal
  journal_is u h = ap (entries_of u.unit.number) history_is ∙ A.journal u h

  pub unit_is : (image : Image) (after : List UnitValue) → LeadsTo schema about.capacity about.units history image after → (u : UnitView) → Has u us → (0 < u.unit.number) × (slice_get after (u.unit.number - 1) ≡ Some u.unit)
  unit_is image after L u h =
      let n = (A.number u h).0 in
      let there : unit_of (replay_entries schema about.capacity (opening_state schema about.units) history) u.unit.number ≡ Some u.unit =
      subst (λ (s : Lists). unit_of (replay_entries s about.capacity (opening_state s about.units) history) u.unit.number ≡ Some u.unit) same
      (subst (λ (l : List Entry). unit_of (replay_entries about.schema.value about.capacity (opening_state about.schema.value about.units) l) u.unit.number ≡ Some u.unit) (sym history_is) (A.unit u h)) in
      (n, ap (λ (l : List UnitValue). slice_get l (u.unit.number - 1)) L.units_are ∙ (sym (at_number (replay_entries schema about.capacity (opening_state schema about.units) history) u.unit.number n) ∙ there))
