use Rattle.std.proofs.Common.{◌≡◌, None, sym, ◌∙◌, ap, subst}
use Rattle.std.specs.Prelude.{IfOk}
use Rattle.dbtg_unit.specs.declared.statement.Statement.{Statement}
use Rattle.dbtg_unit.specs.declared.statement.Statement.TheVariants.{Modify}
use Rattle.dbtg_unit.specs.declared.unit.Answer.{Answer}
use Rattle.dbtg_unit.specs.Database.Statements.Checks.{refused_at_once}
use Rattle.dbtg_unit.specs.Hands.Locality.{IsMadeOnEach, seen}
use Rattle.dbtg_unit.specs.Hands.Making.{MayPrepare}
use Rattle.dbtg_plan.proofs.Plans.MadeAtOnce.{get_is_made}
use Rattle.dbtg_plan.proofs.making.make_passed.Goals as goal

pub returns-in-Get-clause-made : goal.returns-in-Get-clause-made
returns-in-Get-clause-made c =
    rw c.in-Get.is
    (get_is_made c.args.schema.now c.args.unit.now c.args.held.now c.args.capacity _ (rw c.in-Get.is at c.requires.may) (rw c.in-Get.is at c.requires.passes) c.answer_get.result c.answer_get.ensures)

pub returns-in-Find-clause-made : goal.returns-in-Find-clause-made
returns-in-Find-clause-made c =
    subst (λ (s : Statement). IsMadeOnEach c.args.schema.now c.args.capacity c.args.unit.now c.args.held.now s (seen c.make_find.result c.make_find.new.unit c.make_find.new.held)) (sym c.in-Find.is) c.make_find.ensures

pub returns-in-Store-clause-made : goal.returns-in-Store-clause-made
returns-in-Store-clause-made c =
    subst (λ (s : Statement). IfOk c.make_store.result (λ (a : Answer). IsMadeOnEach c.args.schema.now c.args.capacity c.args.unit.now c.args.held.now s (seen a c.make_store.new.unit c.make_store.new.held))) (sym c.in-Store.is) c.make_store.ensures.made

pub returns-in-Insert-clause-made : goal.returns-in-Insert-clause-made
returns-in-Insert-clause-made c =
    subst (λ (s : Statement). IfOk c.make_insert.result (λ (a : Answer). IsMadeOnEach c.args.schema.now c.args.capacity c.args.unit.now c.args.held.now s (seen a c.make_insert.new.unit c.make_insert.new.held))) (sym c.in-Insert.is) c.make_insert.ensures.made

pub returns-in-Remove-clause-made : goal.returns-in-Remove-clause-made
returns-in-Remove-clause-made c =
    subst (λ (s : Statement). IsMadeOnEach c.args.schema.now c.args.capacity c.args.unit.now c.args.held.now s (seen c.make_remove.result c.make_remove.new.unit c.make_remove.new.held)) (sym c.in-Remove.is) c.make_remove.ensures

pub returns-in-Modify-clause-made : goal.returns-in-Modify-clause-made
returns-in-Modify-clause-made c =
    subst (λ (s : Statement). IfOk c.make_modify.result (λ (a : Answer). IsMadeOnEach c.args.schema.now c.args.capacity c.args.unit.now c.args.held.now s (seen a c.make_modify.new.unit c.make_modify.new.held)))
    (ap (Modify c.in-Modify.rtype) (c.as_slice.ensures ∙ c.get.ensures) ∙ sym c.in-Modify.is) c.make_modify.ensures.made

pub make_find-requires : goal.make_find-requires
make_find-requires c =
    record {
      may = subst (λ (s : Statement). MayPrepare c.args.schema.now c.args.capacity c.args.unit.now c.args.held.now s) c.in-Find.is c.requires.may;
      passes = subst (λ (s : Statement). refused_at_once c.args.schema.now c.args.capacity c.args.unit.now s ≡ None) c.in-Find.is c.requires.passes;
    }

pub make_store-requires : goal.make_store-requires
make_store-requires c =
    record {
      may = subst (λ (s : Statement). MayPrepare c.args.schema.now c.args.capacity c.args.unit.now c.args.held.now s) c.in-Store.is c.requires.may;
      agrees = c.requires.agrees;
      passes = subst (λ (s : Statement). refused_at_once c.args.schema.now c.args.capacity c.args.unit.now s ≡ None) c.in-Store.is c.requires.passes;
    }

pub make_modify-requires : goal.make_modify-requires
make_modify-requires c =
    record {
      may = subst (λ (s : Statement). MayPrepare c.args.schema.now c.args.capacity c.args.unit.now c.args.held.now s) (c.in-Modify.is ∙ sym (ap (Modify c.in-Modify.rtype) (c.as_slice.ensures ∙ c.get.ensures))) c.requires.may;
      agrees = c.requires.agrees;
      passes = subst (λ (s : Statement). refused_at_once c.args.schema.now c.args.capacity c.args.unit.now s ≡ None) (c.in-Modify.is ∙ sym (ap (Modify c.in-Modify.rtype) (c.as_slice.ensures ∙ c.get.ensures))) c.requires.passes;
    }
