use Rattle.std.proofs.Common.{◌≡◌, ◌∙◌, [], true, ap, length, map, subst, sym}
use Rattle.std.proofs.lemmas.Result.{IfOk-weaker}
use Rattle.std.specs.Prelude.{reverse}
use Rattle.std.specs.Vec.{vec_items}
use Rattle.dbtg_step.specs.Laws.{scripts_fit}
use Rattle.dbtg_step.specs.Inside.Turns.{statements_in_turn}
use Rattle.dbtg_step.specs.Inside.Whole.{HasMadeAll}
use Rattle.dbtg_step.specs.Core.Whole.{Making}
use Rattle.dbtg_step.proofs.MadeWhole.TurnsWhole.{turned_whole}
use Rattle.dbtg_step.proofs.MadeWhole.Wholes.{making}
use Rattle.dbtg_step.proofs.running.run_whole_turns.Goals as goal

pub make_each_turn-requires-clause-fitting : goal.make_each_turn-requires-clause-fitting
make_each_turn-requires-clause-fitting c =
    let schema = ap (λ (m : Making). m.schema) c.in_ok-database.ensures in
    subst (λ ls. scripts_fit c.in_ok-database.database.schema ls ≡ true) (sym c.in_ok-left.ensures)
    (subst (λ s. scripts_fit s c.args.scripts ≡ true) (sym schema) c.requires.fit)

pub returns : goal.returns
returns c =
    let schema = c.args.schema.now in
    let capacity = c.args.capacity in
    let scripts = c.args.scripts in
    let turns = c.args.turns.now in
    let database = c.make_each_turn.new.database in
    let made = subst (λ (m : Making). HasMadeAll m (statements_in_turn (map (λ v. reverse (vec_items v)) c.in_ok-left.left.items) turns) database)
    (c.in_ok-database.ensures ∙ ap (λ n. making schema capacity n []) c.len-units.ensures) c.in_ok-make_each_turn.ensures in
    let all = subst (λ ls. HasMadeAll (making schema capacity (length scripts) []) (statements_in_turn ls turns) database) c.in_ok-left.ensures made in
    IfOk-weaker c.into_run.result _ _ (λ given run. turned_whole schema capacity c.requires.sound scripts c.requires.fit turns database given all run)
    c.into_run.ensures
