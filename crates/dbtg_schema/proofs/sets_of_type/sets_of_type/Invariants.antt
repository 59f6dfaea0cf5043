use Rattle.std.proofs.Common.{◌≡◌}
use Rattle.std.specs.Prelude.{filter}
use Rattle.std.specs.List.{range_with_len}
use Rattle.dbtg_schema.specs.Inside.Connecting.{connects_in}
use Rattle.dbtg_schema.specs.Inside.SetsOfTypes.{sets_alone}
use Rattle.dbtg_schema.specs.Structure.{owns}
use Rattle.dbtg_schema.proofs.sets_of_type.sets_of_type.Given as goal

abbrev pub invariant-loop-s : goal.invariant-loop-s
invariant-loop-s l = record {
  connected : l.automatic ≡ filter (λ s. connects_in (sets_alone l.sets) s l.rtype) (range_with_len 0 l.s);
  own : l.owned ≡ filter (λ s. owns (sets_alone l.sets) s l.rtype) (range_with_len 0 l.s);
}
