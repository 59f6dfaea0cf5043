use Rattle.std.proofs.Common.{ap, rules, ◌∙◌, Some}
use Rattle.dbtg_cells.proofs.PlaceNumbers.{system_ring_number}
use Rattle.dbtg_cells.proofs.numbering.system_ring_number.Goals as goal

pub returns : goal.returns
returns c = system_ring_number c.args.schema.now c.args.capacity c.args.set c.requires ∙ ap Some (search rules)
