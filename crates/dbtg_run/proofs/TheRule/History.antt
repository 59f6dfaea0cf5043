-- What the rule says of the history: it is one of the sequential database, and gives each unit as its view has it.
use Rattle.std.proofs.Common.{◌≡◌, ℕ, suc, ◌<◌, List, map, Option, Some, sym, ap, ◌∙◌, subst}
use mathlib.Core.Option as maybe
use Rattle.dbtg_cells.specs.declared.cell.Cell.{Cell}
use Rattle.dbtg_unit.specs.Database.Laws.Replay.{AnswersHold, IsHistoryOf, TicketsInOrder, opening_state, replay, unit_of}
use Rattle.dbtg_step.specs.Machine.SequentialDatabase.{unit_at}
use Rattle.dbtg_step.specs.Machine.Headline.{entry_of}
use Rattle.dbtg_step.proofs.Public.{answers_same, entries_again, replays_same, tickets_in_order, unit_found}
use Rattle.dbtg_run.specs.declared.view.About.{About}
use Rattle.dbtg_run.specs.declared.view.SeatUnit.{SeatUnit}
use Rattle.dbtg_run.specs.Inside.LatchRule.{net, opens, TableShows}

module _ (about : About) (words : List ℕ) (homes : List (maybe.Option (Option Cell))) (all : ℕ → SeatUnit) (W : TableShows about words homes all) where
  noted : map (entry_of {schema = about.schema.value} {capacity = about.capacity}) W.machine.history ≡ W.log
  noted = ap (map entry_of) W.history ∙ entries_again about.schema.value about.capacity W.log

  pub is_history : IsHistoryOf about.schema.value about.capacity about.units W.log
  is_history = record {
    tickets = subst TicketsInOrder noted (tickets_in_order about.schema.value about.capacity W.machine.history W.lawful.tickets);
    fitting = W.fitting;
    answers_hold = subst (AnswersHold about.schema.value about.capacity (opening_state about.schema.value about.units)) noted (answers_same about.schema.value about.capacity (opens about) W.machine.history W.lawful.answers);
  }

  pub unit_is : (u : ℕ) → u < about.units → unit_of (replay about.schema.value about.capacity (opening_state about.schema.value about.units) W.log) (suc u) ≡ Some (all u).unit
  unfolding unit_at
  unit_is u l =
      let sh = W.shows u l in
      let same = replays_same about.schema.value about.capacity (opens about) W.machine.history ∙ ap (replay about.schema.value about.capacity (opening_state about.schema.value about.units)) noted in
      ap (λ q. unit_of q (suc u)) (sym same)
      ∙ (unit_found (net about) (opens about) W.machine W.lawful (suc u) sh.state sh.found ∙ ap (λ x. Some x) sh.unit)
