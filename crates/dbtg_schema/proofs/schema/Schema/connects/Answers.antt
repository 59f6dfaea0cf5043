use Rattle.std.proofs.Common.{◌∙◌}
use Rattle.dbtg_schema.proofs.Indexes.Connectings.{one_right}
use Rattle.dbtg_schema.proofs.schema.Schema.connects.Goals as goal

pub returns-in-Some : goal.returns-in-Some
returns-in-Some c = c.contains.ensures ∙ one_right c.args.self.now c.args.rtype c.in-Some.sets c.args.set c.in-Some.ensures
