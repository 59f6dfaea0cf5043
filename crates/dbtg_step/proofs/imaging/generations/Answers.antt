use Rattle.std.proofs.Common.{◌∙◌, ◌+◌, ap, arith, length}
use Rattle.std.proofs.lemmas.List.FromFn.{length-map-range_with_len}
use Rattle.dbtg_cells.specs.Numbers.{last_of}
use Rattle.dbtg_step.proofs.TheCore.RangePushes.{map_pushed}
use Rattle.dbtg_step.proofs.imaging.generations.Goals as goal

pub push_reserved-requires : goal.push_reserved-requires
push_reserved-requires c =
    omega (arith, c.loop-turn.invariant.1, ap length c.loop-turn.invariant.0 ∙ length-map-range_with_len (λ n. last_of n c.args.extent.now.numbers) 1 c.loop-turn.turn)

pub loop-turn-preserved : goal.loop-turn-preserved
loop-turn-preserved c = (
  map_pushed (λ n. last_of n c.args.extent.now.numbers) 1 c.loop-turn.turn (c.loop-turn.turn + 1) (omega arith) c.generation.result c.loop-turn.all.items c.push_reserved.new.self.items c.loop-turn.invariant.0 c.push_reserved.ensures.items c.generation.ensures,
  omega (arith, c.loop-turn.invariant.1, c.push_reserved.ensures.capacity),
)
