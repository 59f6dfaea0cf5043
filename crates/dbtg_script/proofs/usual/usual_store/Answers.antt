use Rattle.std.proofs.Common.{◌∙◌, sym}
use Rattle.dbtg_script.proofs.Reading.UsualStores.{store_is_said}
use Rattle.dbtg_script.proofs.usual.usual_store.Goals as goal

pub returns-in_ok-new-in-Some-2 : goal.returns-in_ok-new-in-Some-2
returns-in_ok-new-in-Some-2 c =
    let values = rw c.in-Some-2.is at c.in_ok-usual_values.ensures in
    rw (c.in-Some.ensures, c.in_ok-new-in-Some-2.ensures ∙ c.of.ensures) (store_is_said c.args.schema.now c.in-Some-type_named.rtype c.in-Some.name.now _ c.in-Some-2.values.items (sym c.in-Some-type_named.ensures) values)
