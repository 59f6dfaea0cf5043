use Rattle.std.proofs.Common.{map, ap, ◌∙◌}
use Rattle.dbtg_schema.specs.Lists.{Lists}
use Rattle.dbtg_schema.specs.Structure.{place_of}
use Rattle.dbtg_schema.proofs.Indexes.NameIndexes.{are_indexed}
use Rattle.dbtg_schema.proofs.schema.Schema.set.Goals as goal

pub returns : goal.returns
returns c = c.set.ensures ∙ (are_indexed c.self.invariant.1).sets_lead c.args.name.now ∙ ap (λ (s : Lists). place_of c.args.name.now (map (λ s. s.name) s.sets)) c.self.view_is
