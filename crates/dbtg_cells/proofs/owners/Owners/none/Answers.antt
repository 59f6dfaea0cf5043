use Rattle.std.proofs.Common.{◌∙◌, ap, replicate}
use Rattle.std.proofs.lemmas.List.{take-replicate}
use Rattle.dbtg_cells.proofs.owners.Owners.none.Goals as goal

pub returns : goal.returns
returns c = take-replicate c.args.sets 16 c.of.result c.requires ∙ ap (replicate c.args.sets) c.of.ensures
