use Rattle.std.proofs.Common.{◌∙◌, refl, sym, ap, subst, ℕ, ◌+◌, ◌<◌, List, ◌++◌, drop, length, arith}
use Rattle.dbtg_unit.specs.declared.statement.Statement.{Statement}
use Rattle.dbtg_unit.specs.Database.Laws.Replay.{after_entry, opening_state}
use Rattle.dbtg_step.specs.Core.Whole.{HasMade, Making, state_now}
use Rattle.dbtg_refusal.specs.Said.{said_from, said_in}
use Rattle.dbtg_refusal.proofs.MadeAgain.{pushed, said_next, state_at_first, state_behind}
use Rattle.dbtg_refusal.proofs.said.said_of_entries.Goals as goal

pub loop-entry-init : goal.loop-entry-init
loop-entry-init c =
    let m = c.args.database.now in
    let history = c.args.history.now in
    record {
      schema = refl;
      capacity = refl;
      units = refl;
      said = ap (λ (xs : List (List ℕ)). xs ++ said_from m.schema m.capacity (state_now m) history) c.new-said.ensures.items
          ∙ ap (λ st. said_from m.schema m.capacity st history) (state_at_first m c.requires.fresh)
          ∙ ap (λ s. said_from s m.capacity (opening_state s m.units) history) c.requires.of_schema;
    }

pub loop-entry-preserved : goal.loop-entry-preserved
loop-entry-preserved c =
    let history = c.args.history.now in
    let i = c.loop-entry.entry-index in
    let e = c.entry-item.result in
    let old = c.loop-entry.database in
    let new = c.make.new.self in
    let before = c.loop-entry.invariant in
    let has = subst (λ (x : Statement). HasMade old e.unit x new) c.in_ok-copy.ensures c.in_ok-make.ensures.made in
    let schema = ap (λ (m : Making). m.schema) has.new_is in
    let capacity = ap (λ (m : Making). m.capacity) has.new_is in
    let state = state_behind old new e has in
    let below : i < length history = omega arith in
    let next = said_next old.schema old.capacity (state_now old) history i e below c.entry-item.is in
    let text = c.of.ensures ∙ c.in_ok-said_of.ensures ∙ ap (λ s. said_in s old.capacity (state_now old) e) (sym (before.schema ∙ c.requires.of_schema)) in
    record {
      schema = schema ∙ before.schema;
      capacity = capacity ∙ before.capacity;
      units = ap (λ (m : Making). m.units) has.new_is ∙ before.units;
      said = (λ j. c.push.new.self.items ++ said_from (schema j) (capacity j) (state j) (drop (i + 1) history))
          ∙ pushed c.loop-entry.said.items c.push.new.self.items (said_from old.schema old.capacity (after_entry old.schema old.capacity (state_now old) e) (drop (i + 1) history)) _ c.of.result _ c.in_ok-push.ensures.items text
          (ap (λ (ts : List (List ℕ)). c.loop-entry.said.items ++ ts) (sym next) ∙ before.said);
    }
