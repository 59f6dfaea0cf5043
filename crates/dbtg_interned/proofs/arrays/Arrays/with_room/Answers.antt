use Rattle.dbtg_interned.proofs.Places.{zeros_array, zeros_elements}
use Rattle.dbtg_interned.proofs.arrays.Arrays.with_room.Goals as goal

pub returns-clause-array : goal.returns-clause-array
returns-clause-array c = zeros_array (record { nodes = c.in_ok-nodes.nodes; places = c.in_ok-places.places.items; used = 0 }) c.in_ok-nodes.ensures.sound

pub returns-clause-zeros : goal.returns-clause-zeros
returns-clause-zeros c = zeros_elements (record { nodes = c.in_ok-nodes.nodes; places = c.in_ok-places.places.items; used = 0 }) c.in_ok-nodes.ensures.sound
