use Rattle.std.proofs.Common.{ap, rules, ◌∙◌, Some}
use Rattle.dbtg_cells.proofs.PlaceNumbers.{ring_number}
use Rattle.dbtg_cells.proofs.numbering.ring_number.Goals as goal

pub returns : goal.returns
returns c = ring_number c.args.schema.now c.args.capacity c.args.set c.args.rtype c.args.number c.requires ∙ ap Some (search rules)
