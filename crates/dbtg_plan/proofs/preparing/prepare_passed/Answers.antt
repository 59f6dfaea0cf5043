use Rattle.std.proofs.Common.{◌≡◌, None, sym, ◌∙◌, ap, subst}
use Rattle.std.specs.Prelude.{IfOk}
use Rattle.dbtg_unit.specs.declared.statement.Statement.{Statement}
use Rattle.dbtg_unit.specs.declared.statement.Statement.TheVariants.{CloseArea, Free, Get, Keep, Modify, Remove}
use Rattle.dbtg_unit.specs.Database.Statements.Checks.{refused_at_once}
use Rattle.dbtg_unit.specs.Hands.InHand.{in_hand}
use Rattle.dbtg_unit.specs.Hands.Making.{CanFinish, MayPrepare}
use Rattle.dbtg_unit.specs.Hands.Prepared.{Plan}
use Rattle.dbtg_unit.specs.Inside.PlanOf.{plan_of}
use Rattle.dbtg_plan.proofs.Plans.OpenClose.{close_can_finish}
use Rattle.dbtg_plan.proofs.Plans.GetKeepFree.{get_finishes, keep_finishes, free_finishes}
use Rattle.dbtg_plan.proofs.Plans.PartByPart.{finishes_as_plan}
use Rattle.dbtg_plan.proofs.Connect.RemoveIsEffect.{remove_finishes}
use Rattle.dbtg_plan.proofs.Modify.ModifyReady.{modify_finishes}
use Rattle.dbtg_plan.proofs.preparing.prepare_passed.Goals as goal

pub returns-in-CloseArea-clause-prepared : goal.returns-in-CloseArea-clause-prepared
returns-in-CloseArea-clause-prepared c =
    finishes_as_plan c.args.schema.now c.args.capacity c.args.unit.now c.args.held.now c.args.statement.now (CloseArea c.in-CloseArea.area) (plan_of c.args.schema.now (in_hand c.args.held.now) c.args.unit.now (CloseArea c.in-CloseArea.area)) c.in-CloseArea.is
    (close_can_finish c.args.schema.now c.args.capacity c.args.unit.now c.args.held.now c.in-CloseArea.area (subst (λ (s : Statement). refused_at_once c.args.schema.now c.args.capacity c.args.unit.now s ≡ None) c.in-CloseArea.is c.requires.passes) (subst (λ (s : Statement). MayPrepare c.args.schema.now c.args.capacity c.args.unit.now c.args.held.now s) c.in-CloseArea.is c.requires.may))
    c.close.result c.close.ensures

pub returns-in-Get-clause-prepared : goal.returns-in-Get-clause-prepared
returns-in-Get-clause-prepared c =
    finishes_as_plan c.args.schema.now c.args.capacity c.args.unit.now c.args.held.now c.args.statement.now (Get c.in-Get.rtype) (plan_of c.args.schema.now (in_hand c.args.held.now) c.args.unit.now (Get c.in-Get.rtype)) c.in-Get.is
    (get_finishes c.args.schema.now c.args.capacity c.args.unit.now c.args.held.now c.in-Get.rtype (subst (λ (s : Statement). refused_at_once c.args.schema.now c.args.capacity c.args.unit.now s ≡ None) c.in-Get.is c.requires.passes) (subst (λ (s : Statement). MayPrepare c.args.schema.now c.args.capacity c.args.unit.now c.args.held.now s) c.in-Get.is c.requires.may))
    c.get.result c.get.ensures

pub returns-in-Keep-clause-prepared : goal.returns-in-Keep-clause-prepared
returns-in-Keep-clause-prepared c =
    finishes_as_plan c.args.schema.now c.args.capacity c.args.unit.now c.args.held.now c.args.statement.now Keep (plan_of c.args.schema.now (in_hand c.args.held.now) c.args.unit.now Keep) c.in-Keep.is
    (keep_finishes c.args.schema.now c.args.capacity c.args.unit.now c.args.held.now (subst (λ (s : Statement). refused_at_once c.args.schema.now c.args.capacity c.args.unit.now s ≡ None) c.in-Keep.is c.requires.passes) (subst (λ (s : Statement). MayPrepare c.args.schema.now c.args.capacity c.args.unit.now c.args.held.now s) c.in-Keep.is c.requires.may))
    c.keep.result c.keep.ensures

pub returns-in-Free-clause-prepared : goal.returns-in-Free-clause-prepared
returns-in-Free-clause-prepared c =
    finishes_as_plan c.args.schema.now c.args.capacity c.args.unit.now c.args.held.now c.args.statement.now (Free c.in-Free.all) (plan_of c.args.schema.now (in_hand c.args.held.now) c.args.unit.now (Free c.in-Free.all)) c.in-Free.is
    (free_finishes c.args.schema.now c.args.capacity c.args.unit.now c.args.held.now c.in-Free.all (subst (λ (s : Statement). refused_at_once c.args.schema.now c.args.capacity c.args.unit.now s ≡ None) c.in-Free.is c.requires.passes))
    c.free.result c.free.ensures

pub returns-in-Remove-clause-prepared : goal.returns-in-Remove-clause-prepared
returns-in-Remove-clause-prepared c =
    finishes_as_plan c.args.schema.now c.args.capacity c.args.unit.now c.args.held.now c.args.statement.now (Remove c.in-Remove.set) (plan_of c.args.schema.now (in_hand c.args.held.now) c.args.unit.now (Remove c.in-Remove.set)) c.in-Remove.is
    (remove_finishes c.args.schema.now c.args.capacity c.args.unit.now c.args.held.now c.in-Remove.set (subst (λ (s : Statement). refused_at_once c.args.schema.now c.args.capacity c.args.unit.now s ≡ None) c.in-Remove.is c.requires.passes) (subst (λ (s : Statement). MayPrepare c.args.schema.now c.args.capacity c.args.unit.now c.args.held.now s) c.in-Remove.is c.requires.may))
    c.remove.result c.remove.ensures

pub returns-in-Modify-clause-prepared : goal.returns-in-Modify-clause-prepared
returns-in-Modify-clause-prepared c =
    finishes_as_plan c.args.schema.now c.args.capacity c.args.unit.now c.args.held.now c.args.statement.now (Modify c.in-Modify.rtype c.as_slice.result.now) (plan_of c.args.schema.now (in_hand c.args.held.now) c.args.unit.now (Modify c.in-Modify.rtype c.as_slice.result.now)) (c.in-Modify.is ∙ sym (ap (Modify c.in-Modify.rtype) (c.as_slice.ensures ∙ c.get-in-Modify.ensures)))
    (modify_finishes c.args.schema.now c.args.capacity c.args.unit.now c.args.held.now c.in-Modify.rtype c.as_slice.result.now (subst (λ (s : Statement). refused_at_once c.args.schema.now c.args.capacity c.args.unit.now s ≡ None) (c.in-Modify.is ∙ sym (ap (Modify c.in-Modify.rtype) (c.as_slice.ensures ∙ c.get-in-Modify.ensures))) c.requires.passes) (subst (λ (s : Statement). MayPrepare c.args.schema.now c.args.capacity c.args.unit.now c.args.held.now s) (c.in-Modify.is ∙ sym (ap (Modify c.in-Modify.rtype) (c.as_slice.ensures ∙ c.get-in-Modify.ensures))) c.requires.may))
    c.modify.result c.modify.ensures

pub returns-in-OpenArea-clause-prepared : goal.returns-in-OpenArea-clause-prepared
returns-in-OpenArea-clause-prepared c =
    subst (λ (s : Statement). IfOk c.prepare_open.result (λ (p : Plan). CanFinish c.args.schema.now c.args.capacity c.args.unit.now c.prepare_open.new.held s p)) (sym c.in-OpenArea.is) c.prepare_open.ensures.prepared

pub returns-in-Insert-clause-prepared : goal.returns-in-Insert-clause-prepared
returns-in-Insert-clause-prepared c =
    subst (λ (s : Statement). IfOk c.prepare_insert.result (λ (p : Plan). CanFinish c.args.schema.now c.args.capacity c.args.unit.now c.prepare_insert.new.held s p)) (sym c.in-Insert.is) c.prepare_insert.ensures.prepared

pub returns-in-Store-clause-prepared : goal.returns-in-Store-clause-prepared
returns-in-Store-clause-prepared c =
    subst (λ (s : Statement). IfOk c.prepare_store.result (λ (p : Plan). CanFinish c.args.schema.now c.args.capacity c.args.unit.now c.prepare_store.new.held s p)) (sym c.in-Store.is) c.prepare_store.ensures.prepared

pub returns-in-Find-clause-prepared : goal.returns-in-Find-clause-prepared
returns-in-Find-clause-prepared c =
    subst (λ (s : Statement). CanFinish c.args.schema.now c.args.capacity c.args.unit.now c.args.held.now s c.prepare_find.result) (sym c.in-Find.is) c.prepare_find.ensures

pub prepare_open-requires : goal.prepare_open-requires
prepare_open-requires c =
    record {
      may = subst (λ (s : Statement). MayPrepare c.args.schema.now c.args.capacity c.args.unit.now c.args.held.now s) c.in-OpenArea.is c.requires.may;
      passes = subst (λ (s : Statement). refused_at_once c.args.schema.now c.args.capacity c.args.unit.now s ≡ None) c.in-OpenArea.is c.requires.passes;
    }

pub prepare_insert-requires : goal.prepare_insert-requires
prepare_insert-requires c =
    record {
      may = subst (λ (s : Statement). MayPrepare c.args.schema.now c.args.capacity c.args.unit.now c.args.held.now s) c.in-Insert.is c.requires.may;
      passes = subst (λ (s : Statement). refused_at_once c.args.schema.now c.args.capacity c.args.unit.now s ≡ None) c.in-Insert.is c.requires.passes;
    }

pub prepare_find-requires : goal.prepare_find-requires
prepare_find-requires c =
    record {
      may = subst (λ (s : Statement). MayPrepare c.args.schema.now c.args.capacity c.args.unit.now c.args.held.now s) c.in-Find.is c.requires.may;
      passes = subst (λ (s : Statement). refused_at_once c.args.schema.now c.args.capacity c.args.unit.now s ≡ None) c.in-Find.is c.requires.passes;
    }

pub prepare_store-requires : goal.prepare_store-requires
prepare_store-requires c =
    record {
      may = subst (λ (s : Statement). MayPrepare c.args.schema.now c.args.capacity c.args.unit.now c.args.held.now s) c.in-Store.is c.requires.may;
      passes = subst (λ (s : Statement). refused_at_once c.args.schema.now c.args.capacity c.args.unit.now s ≡ None) c.in-Store.is c.requires.passes;
    }
