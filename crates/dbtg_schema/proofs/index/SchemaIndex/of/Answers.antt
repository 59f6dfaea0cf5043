use Rattle.std.proofs.Common.{List, subst, sym}
use Rattle.dbtg_schema.specs.Inside.NameIndexes.{AreItemIndexes}
use Rattle.dbtg_schema.specs.declared.index.NameIndex.{NameIndex}
use Rattle.dbtg_schema.proofs.Indexes.NameIndexes.{indexed}
use Rattle.dbtg_schema.proofs.index.SchemaIndex.of.Goals as goal

pub returns : goal.returns
returns c =
    indexed (record {
      areas_lead = c.in_ok-areas.ensures;
      types_lead = c.in_ok-types.ensures;
      sets_lead = c.in_ok-sets.ensures;
      items_lead = subst (λ (indexes : List NameIndex). AreItemIndexes indexes c.args.types.now) (sym c.of-items.ensures) c.in_ok-item_indexes.ensures;
    })
