-- The network database of a sound schema is a sequential database for the machine.
use Rattle.std.proofs.Common.{ℕ}
use Rattle.dbtg_schema.specs.Lists.{Lists}
use Rattle.dbtg_schema.specs.Sound.{IsSound}
use Rattle.dbtg_cells.specs.Names.{name_below}
use Rattle.dbtg_step.specs.Inside.SequentialDatabase.{IsSequentialDatabase}
use Rattle.dbtg_step.specs.Laws.{NeedsAreInOrder}
use Rattle.dbtg_step.specs.Machine.NeverStuck.{NeedsInOrder}
use Rattle.dbtg_step.specs.Machine.Network.{network}
use Rattle.dbtg_step.proofs.Network.NeededCells.{needed_in_area}
use Rattle.dbtg_step.proofs.Network.NetworkNeeds.{network_names_cells}
use Rattle.dbtg_step.proofs.Network.StatementsLocal.{statements_are_local}
use Rattle.dbtg_step.proofs.Network.TakingOrder.{network_needs_in_order}

pub network_is_sequential : (schema : Lists) (capacity : ℕ) → IsSound schema → IsSequentialDatabase (network schema capacity)
network_is_sequential schema capacity sound = record { names = network_names_cells schema capacity; in_area = needed_in_area schema capacity sound; local = statements_are_local schema capacity sound }

pub needs_in_order : (schema : Lists) (capacity : ℕ) → IsSound schema → NeedsInOrder (network schema capacity) name_below
needs_in_order schema capacity sound = network_needs_in_order schema capacity sound

pub needs_are_in_order : (schema : Lists) (capacity : ℕ) → IsSound schema → NeedsAreInOrder schema capacity
needs_are_in_order schema capacity sound = record { names = network_names_cells schema capacity; in_area = needed_in_area schema capacity sound; in_order = needs_in_order schema capacity sound }
