use Rattle.std.proofs.Common.{◌∙◌, sym}
use Rattle.dbtg_run.proofs.making.told.Goals as goal

pub returns : goal.returns
returns c = λ j. record { schema = record { marker = c.of.result.marker; value = (c.of.ensures ∙ sym c.requires) j }; capacity = c.args.about.now.capacity; units = c.args.about.now.units }
