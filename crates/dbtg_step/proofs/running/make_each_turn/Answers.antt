use Rattle.std.proofs.Common.{◌≡◌, ◌∙◌, true, ap, get_or, length, map, subst, sym}
use Rattle.std.proofs.lemmas.List.{length-map}
use Rattle.std.specs.Prelude.{reverse}
use Rattle.std.specs.Vec.{vec_items}
use Rattle.dbtg_step.specs.Core.Whole.{Making}
use Rattle.dbtg_step.specs.Laws.{scripts_fit}
use Rattle.dbtg_step.proofs.MadeWhole.TurnsWhole.{left_fits, left_many, one_turn_more, turns_done}
use Rattle.dbtg_step.proofs.running.make_each_turn.Goals as goal

pub make_turn-requires-clause-fitting : goal.make_turn-requires-clause-fitting
make_turn-requires-clause-fitting c =
    let schema = ap (λ (m : Making). m.schema) c.loop-unit.invariant.same in
    subst (λ s. scripts_fit s (map (λ v. reverse (vec_items v)) c.loop-unit.left.items) ≡ true) (sym schema) c.loop-unit.invariant.fitting

pub loop-unit-preserved : goal.loop-unit-preserved
loop-unit-preserved c =
    let schema = c.args.database.now.schema in
    let left = map (λ v. reverse (vec_items v)) c.loop-unit.left.items in
    let after = map (λ v. reverse (vec_items v)) c.make_turn.new.left.items in
    let unit = get_or c.args.turns.now c.loop-unit.unit-index 0 in
    let made = c.in_ok-make_turn.ensures.made in
    let rest = c.in_ok-make_turn.ensures.left in
    record {
      same = made.new_is ∙ ap (λ (m : Making). record m { history = c.make_turn.new.database.history }) c.loop-unit.invariant.same;
      made = one_turn_more c.loop-unit.database c.make_turn.new.database left after c.args.turns.now c.loop-unit.unit-index 0 _ c.loop-unit-test.true
          made rest c.loop-unit.invariant.made;
      fitting = subst (λ ls. scripts_fit schema ls ≡ true) (sym rest) (left_fits schema left unit c.loop-unit.invariant.fitting);
      count = sym (length-map c.make_turn.new.left.items (λ v. reverse (vec_items v))) ∙ ap length rest ∙ left_many left unit _
          ∙ length-map c.loop-unit.left.items (λ v. reverse (vec_items v)) ∙ c.loop-unit.invariant.count;
    }

pub returns : goal.returns
returns c =
    let left = map (λ v. reverse (vec_items v)) c.loop-unit.left.items in
    record {
      new_is = c.loop-unit.invariant.same;
      statements_are = turns_done c.loop-unit.database left c.args.turns.now c.loop-unit.unit-index _ c.loop-unit-test.false c.loop-unit.invariant.made;
    }
