use Rattle.std.proofs.Common.{◌+◌, arith}
use Rattle.dbtg_states.proofs.States.Spelled.{number_next}
use Rattle.dbtg_states.proofs.contents.spell_extent.Goals as goal

pub loop-before-preserved : goal.loop-before-preserved
loop-before-preserved c =
    number_next c.args.extent.now.numbers c.loop-before.before (c.loop-before.before + 1) c.args.out.now.items c.loop-before.out.items c.spell_number.new.out.items
    (omega arith) (omega (arith, c.loop-before-test.true, c.count_used-before-end.ensures.within)) c.loop-before.invariant c.in_ok-spell_number.ensures
