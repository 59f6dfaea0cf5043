use Rattle.std.proofs.Common.{arith}
use Rattle.dbtg_schema.proofs.Indexes.Connectings.{all_right}
use Rattle.dbtg_schema.proofs.connecting.sets_connecting.Goals as goal

pub returns : goal.returns
returns c = all_right c.args.schema.now c.args.rtype c.loop-s.marks c.is_well_formed.ensures.sets_limit c.loop-s.invariant.room (λ s h. c.loop-s.invariant.made s (omega (arith, h)))
