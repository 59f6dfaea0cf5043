-- A run of programs can be shown in each form.
use Rattle.std.proofs.Common.{◌≡◌, ◌≤◌, ◌&&◌, ℕ, List, true, length, ap, subst, sym, nat_le, nat_lt, ◌∙◌}
use Rattle.std.specs.List.{list_all}
use Rattle.dbtg_schema.specs.Lists.{Lists}
use Rattle.dbtg_schema.specs.Sound.{IsSound}
use Rattle.dbtg_unit.specs.Database.Laws.Replay.{IsHistoryOf, opening_state}
use Rattle.dbtg_unit.specs.declared.unit.Entry.{Entry}
use Rattle.dbtg_unit.proofs.Public.{opening_length, replay_keeps_count, units_are_there}
use Rattle.dbtg_step.specs.Core.Audit.{MayBeHistory}
use Rattle.dbtg_program.specs.declared.program.Program.{Program}
use Rattle.dbtg_going.specs.declared.going.ProgramRun.{ProgramRun}
use Rattle.dbtg_going.specs.Turns.{IsRunOf}
use Rattle.dbtg_replay.specs.declared.replay.AnswerForm.{AnswerForm}
use Rattle.dbtg_replay.specs.declared.replay.AnswerForm.TheVariants.{Plain, Echo, Explained, Trace}
use Rattle.dbtg_replay.specs.Replaying.{CanShow}

module _ (lists : Lists) (capacity : ℕ) (programs : List Program) (turns : List ℕ) (given : ProgramRun) (is_run : IsRunOf lists capacity programs turns given) where
  as_many_units : length given.run.units ≡ length programs
  as_many_units =
      ap length is_run.run.units_are
      ∙ replay_keeps_count lists capacity (opening_state lists (length programs)) _
      ∙ opening_length lists (length programs)

  may_be : MayBeHistory lists (length programs) given.run.history
  may_be =
      let history = given.run.history in
      let h = subst (IsHistoryOf lists capacity (length programs)) (sym is_run.run.history_is) is_run.run.history_of in
      record {
        tickets = h.tickets;
        numbered =
            subst (λ (n : ℕ). list_all (λ (x : Entry). nat_lt 0 x.unit && nat_le x.unit n) history ≡ true) (opening_length lists (length programs))
            (units_are_there lists capacity (opening_state lists (length programs)) history h.answers_hold);
        fitting = h.fitting;
      }

  pub can_be_shown : (form : AnswerForm) → IsSound lists → length programs ≤ 255 → CanShow lists form given.run
  can_be_shown Plain sound few = tt
  can_be_shown Echo sound few = tt
  can_be_shown Trace sound few = tt
  can_be_shown (Explained c) sound few =
      (sound, subst (λ n. n ≤ 255) (sym as_many_units) few, subst (λ n. MayBeHistory lists n given.run.history) (sym as_many_units) may_be)
