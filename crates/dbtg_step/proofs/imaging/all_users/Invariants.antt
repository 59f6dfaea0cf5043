use Rattle.std.proofs.Common.{◌≡◌, map}
use Rattle.std.specs.List.{range_with_len}
use Rattle.dbtg_cells.specs.declared.name.CellName.TheVariants.{Usage}
use Rattle.dbtg_unit.specs.Hands.InHand.{users_of}
use Rattle.dbtg_step.specs.Inside.Imaging.{found_in}
use Rattle.dbtg_step.proofs.imaging.all_users.Given as goal

abbrev pub invariant-loop-area : goal.invariant-loop-area
invariant-loop-area l = l.all.items ≡ map (λ a. users_of (found_in l.schema l.capacity l.source (Usage a))) (range_with_len 0 l.area)
