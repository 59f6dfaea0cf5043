use Rattle.std.proofs.Common.{◌+◌, drop, ◌∙◌}
use Rattle.std.proofs.lemmas.List.{drop_more}
use Rattle.dbtg_step.specs.Core.Parts.{machine}
use Rattle.dbtg_page.proofs.CoreShown.{move_shown, same_count, same_schema}
use Rattle.dbtg_page.proofs.page.push_each_move.Goals as goal

pub loop-one-preserved : goal.loop-one-preserved
loop-one-preserved c =
    let moves = c.args.moves.now in
    let i = c.loop-one.one-index in
    let moved = c.in_ok-push_move.ensures in
    record {
      text = move_shown c.args.setting.now.events c.loop-one.shown.items _ c.loop-one.out.items _ (machine c.loop-one.core) _ _ (drop i moves) (drop
          (i + 1) moves) _ (drop_more moves i _ c.loop-one-test.true) moved.core moved.shown moved.text c.loop-one.invariant.text;
      schema = same_schema c.loop-one.core _ _ moved.core ∙ c.loop-one.invariant.schema;
      units = same_count c.loop-one.core _ _ moved.core ∙ c.loop-one.invariant.units;
    }
