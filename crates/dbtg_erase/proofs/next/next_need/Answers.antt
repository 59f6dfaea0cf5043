use Rattle.std.proofs.Common.{refl, sym, ◌∙◌}
use Rattle.std.proofs.lemmas.Result.{IfOk-weaker}
use Rattle.dbtg_unit.specs.declared.held.Need.TheVariants.{Area, Ready}
use Rattle.dbtg_unit.specs.declared.statement.Statement.TheVariants.{Delete}
use Rattle.dbtg_unit.proofs.Public.{above_hands, in_held_area}
use Rattle.dbtg_erase.proofs.NextNeed.{area_wanted, ready_refused}
use Rattle.dbtg_erase.proofs.next.next_need.Goals as goal

pub returns-in-Some-clause-need : goal.returns-in-Some-clause-need
returns-in-Some-clause-need c = λ db agrees.
    ready_refused c.args.schema.now c.args.capacity c.args.unit.now c.args.option c.args.held.now db c.in-Some._cause (sym c.refused_at_once.ensures ∙ c.in-Some.is)

pub returns-in-Some-next_area-clause-need : goal.returns-in-Some-next_area-clause-need
returns-in-Some-next_area-clause-need c = λ db agrees.
    area_wanted c.args.schema.now c.args.capacity c.args.unit.now c.args.option c.args.held.now db c.in-Some-next_area.area (sym c.refused_at_once.ensures ∙ c.in-None.is) (sym c.next_area.ensures ∙ c.in-Some-next_area.is)

pub returns-in-Some-clause-above : goal.returns-in-Some-clause-above
returns-in-Some-clause-above c = λ db sound agrees turn. above_hands c.args.schema.now c.args.capacity db c.args.unit.now c.args.held.now (Delete c.args.option) sound turn Ready (returns-in-Some-clause-need c db agrees)

pub returns-in-Some-clause-in_area : goal.returns-in-Some-clause-in_area
returns-in-Some-clause-in_area c = λ db sound of_schema agrees. in_held_area c.args.schema.now c.args.capacity db c.args.unit.now c.args.held.now (Delete c.args.option) sound agrees.legal of_schema refl Ready (returns-in-Some-clause-need c db agrees)

pub returns-clause-above : goal.returns-clause-above
returns-clause-above c =
    IfOk-weaker c.need_with_areas.result _ _
    (λ next is db sound agrees turn. above_hands c.args.schema.now c.args.capacity db c.args.unit.now c.args.held.now (Delete c.args.option) sound turn next (is db agrees)) c.need_with_areas.ensures.need

pub returns-clause-in_area : goal.returns-clause-in_area
returns-clause-in_area c =
    IfOk-weaker c.need_with_areas.result _ _
    (λ next is db sound of_schema agrees. in_held_area c.args.schema.now c.args.capacity db c.args.unit.now c.args.held.now (Delete c.args.option) sound agrees.legal of_schema refl next (is db agrees)) c.need_with_areas.ensures.need

pub returns-in-Some-next_area-clause-above : goal.returns-in-Some-next_area-clause-above
returns-in-Some-next_area-clause-above c = λ db sound agrees turn. above_hands c.args.schema.now c.args.capacity db c.args.unit.now c.args.held.now (Delete c.args.option) sound turn (Area c.in-Some-next_area.area) (returns-in-Some-next_area-clause-need c db agrees)

pub returns-in-Some-next_area-clause-in_area : goal.returns-in-Some-next_area-clause-in_area
returns-in-Some-next_area-clause-in_area c = λ db sound of_schema agrees. in_held_area c.args.schema.now c.args.capacity db c.args.unit.now c.args.held.now (Delete c.args.option) sound agrees.legal of_schema refl (Area c.in-Some-next_area.area) (returns-in-Some-next_area-clause-need c db agrees)
