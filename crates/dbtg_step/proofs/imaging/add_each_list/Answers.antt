use Rattle.std.proofs.Common.{◌≡◌, ◌++◌, ◌∙◌, Some, false, subst, sym}
use Rattle.std.specs.Prelude.{OnOk}
use Rattle.dbtg_schema.specs.Structure.{is_system, owner_type}
use Rattle.dbtg_step.specs.Inside.Imaging.{found_in}
use Rattle.dbtg_step.proofs.TheCore.ImagesRead.{lists_of_owners}
use Rattle.dbtg_step.proofs.imaging.add_each_list.Goals as goal

pub returns-in-Some : goal.returns-in-Some
returns-in-Some c =
    let found = found_in c.args.schema.now c.args.capacity c.args.source in
    let other : is_system c.args.schema.now c.args.set ≡ false = sym c.is_system.ensures ∙ c.if-is_system.false in
    let owner : owner_type c.args.schema.now c.args.set ≡ Some c.in-Some.rtype = sym c.owner_type.ensures ∙ c.in-Some.is in
    subst (λ xs. OnOk c.add_owned_lists.result (c.add_owned_lists.new.lists.items ≡ c.args.lists.now.items ++ xs)) (sym (lists_of_owners c.args.schema.now found c.args.set c.in-Some.rtype other owner)) c.add_owned_lists.ensures
