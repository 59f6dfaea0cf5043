use Rattle.std.proofs.Common.{◌+◌, drop, ◌∙◌}
use Rattle.std.proofs.lemmas.List.{drop_more}
use Rattle.dbtg_step.specs.Core.Parts.{machine}
use Rattle.dbtg_page.proofs.CoreShown.{passed, same_count, same_schema}
use Rattle.dbtg_page.proofs.page.pass.Goals as goal

pub loop-one-preserved : goal.loop-one-preserved
loop-one-preserved c =
    let before = c.args.before.now in
    let i = c.loop-one.one-index in
    let moved = c.in_ok-make_move.ensures.core in
    record {
      run = passed c.args.setting.now.events (machine c.loop-one.core) _ _ _ (drop i before) (drop (i + 1) before) before
          (drop_more before i _ c.loop-one-test.true) moved c.loop-one.invariant.run;
      schema = same_schema c.loop-one.core _ _ moved ∙ c.loop-one.invariant.schema;
      units = same_count c.loop-one.core _ _ moved ∙ c.loop-one.invariant.units;
    }
