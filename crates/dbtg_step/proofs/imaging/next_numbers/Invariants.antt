use Rattle.std.proofs.Common.{◌≡◌, map}
use Rattle.std.specs.List.{range_with_len}
use Rattle.dbtg_cells.specs.declared.name.CellName.TheVariants.{Extent}
use Rattle.dbtg_unit.specs.Hands.InHand.{numbers_of}
use Rattle.dbtg_step.specs.Inside.Imaging.{found_in, next_in}
use Rattle.dbtg_step.proofs.imaging.next_numbers.Given as goal

abbrev pub invariant-loop-rtype : goal.invariant-loop-rtype
invariant-loop-rtype l = l.all.items ≡ map (λ t. next_in (numbers_of (found_in l.schema l.capacity l.source (Extent t)))) (range_with_len 0 l.rtype)
