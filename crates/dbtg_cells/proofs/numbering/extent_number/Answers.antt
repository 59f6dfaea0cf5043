use Rattle.std.proofs.Common.{ap, rules, ◌∙◌, Some}
use Rattle.dbtg_cells.proofs.PlaceNumbers.{extent_number}
use Rattle.dbtg_cells.proofs.numbering.extent_number.Goals as goal

pub returns : goal.returns
returns c = extent_number c.args.schema.now c.args.capacity c.args.rtype c.requires ∙ ap Some (search rules)
