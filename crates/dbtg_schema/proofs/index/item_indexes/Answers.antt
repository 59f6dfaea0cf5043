use Rattle.std.proofs.Common.{List, map, subst}
use Rattle.dbtg_schema.specs.Inside.NameIndexes.{IsIndexOf}
use Rattle.dbtg_schema.specs.declared.shape.Item.{Item}
use Rattle.dbtg_schema.proofs.Indexes.NameIndexes.{one_type_more}
use Rattle.dbtg_schema.proofs.index.item_indexes.Goals as goal

pub loop-rtype-preserved : goal.loop-rtype-preserved
loop-rtype-preserved c =
    let index = c.in_ok-of.field-0 in
    let leads = subst (λ (items : List Item). IsIndexOf index (map (λ i. i.name) items)) c.as_slice.ensures c.in_ok-of.ensures in
    one_type_more c.loop-rtype.out.items c.push.new.self.items c.args.types.now c.loop-rtype.rtype-index index c.rtype-item.result c.loop-rtype-test.true c.rtype-item.is c.loop-rtype.invariant leads c.in_ok-push.ensures.items
