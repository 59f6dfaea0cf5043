use Rattle.std.proofs.Common.{ap, rules, ◌∙◌, Some}
use Rattle.dbtg_cells.proofs.PlaceNumbers.{slot_number}
use Rattle.dbtg_cells.proofs.numbering.slot_number.Goals as goal

pub returns : goal.returns
returns c = slot_number c.args.schema.now c.args.capacity c.args.rtype c.args.number c.requires ∙ ap Some (search rules)
