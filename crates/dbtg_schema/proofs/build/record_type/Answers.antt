use Rattle.std.proofs.Common.{length, ap, ◌∙◌}
use Rattle.dbtg_schema.specs.declared.role.Role.TheVariants as role
use Rattle.dbtg_schema.specs.Texts.SchemaLists.{item_from}
use Rattle.dbtg_schema.specs.Inside.Views.{views}
use Rattle.dbtg_schema.proofs.Indexes.Places.{length_mapped}
use Rattle.dbtg_schema.proofs.build.record_type.Goals as goal

pub calc-requires : goal.calc-requires
calc-requires c =
    let same = ap length c.as_slice.ensures.value ∙ ap length c.in_ok-items.ensures ∙ length_mapped item_from role.ItemEntry (views c.args.entry.now) in
    rw same c.requires.items_fit
