use Rattle.std.proofs.Common.{map, ap, ◌∙◌}
use Rattle.dbtg_schema.specs.Lists.{Lists}
use Rattle.dbtg_schema.specs.Structure.{place_of}
use Rattle.dbtg_schema.proofs.Indexes.NameIndexes.{are_indexed}
use Rattle.dbtg_schema.proofs.schema.Schema.rtype.Goals as goal

pub returns : goal.returns
returns c = c.rtype.ensures ∙ (are_indexed c.self.invariant.1).types_lead c.args.name.now ∙ ap (λ (s : Lists). place_of c.args.name.now (map (λ r. r.name) s.types)) c.self.view_is
