use Rattle.std.proofs.Common.{map, ap, ◌∙◌}
use Rattle.dbtg_schema.specs.Lists.{Lists}
use Rattle.dbtg_schema.specs.Structure.{place_of, item_list}
use Rattle.dbtg_schema.proofs.Indexes.NameIndexes.{are_indexed, items_found}
use Rattle.dbtg_schema.proofs.schema.Schema.item.Goals as goal

pub returns : goal.returns
returns c =
    let found = items_found c.self.inside.index.items c.self.inside.types c.args.rtype c.args.name.now (are_indexed c.self.invariant.1).items_lead in
    c.item.ensures ∙ found ∙ ap (λ (s : Lists). place_of c.args.name.now (map (λ i. i.name) (item_list s c.args.rtype))) c.self.view_is
