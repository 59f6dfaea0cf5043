use Rattle.std.proofs.Common.{sym, ◌∙◌}
use Rattle.dbtg_unit.specs.declared.held.Need.TheVariants.{Area, Ready}
use Rattle.dbtg_unit.proofs.Public.{above_hands, in_held_area}
use Rattle.dbtg_plan.proofs.Needs.WrongGuesses.{area_needed, refused_needs}
use Rattle.dbtg_plan.proofs.need.next_need.Goals as goal

pub returns-in-Some-clause-need : goal.returns-in-Some-clause-need
returns-in-Some-clause-need c db agrees =
    sym (refused_needs c.args.schema.now c.args.capacity db c.args.held.now c.args.unit.now c.args.statement.now c.in-Some._cause (sym c.refused_at_once.ensures ∙ c.in-Some.is))

pub returns-in-Some-next_area-clause-need : goal.returns-in-Some-next_area-clause-need
returns-in-Some-next_area-clause-need c db agrees =
    sym (area_needed c.args.schema.now c.args.capacity db c.args.held.now c.args.unit.now c.args.statement.now (sym c.refused_at_once.ensures ∙ c.in-None.is) c.in-Some-next_area.area (sym c.next_area.ensures ∙ c.in-Some-next_area.is))

pub returns-in-Some-clause-above : goal.returns-in-Some-clause-above
returns-in-Some-clause-above c db sound agrees turn = above_hands c.args.schema.now c.args.capacity db c.args.unit.now c.args.held.now c.args.statement.now sound turn Ready (returns-in-Some-clause-need c db agrees)

pub returns-in-Some-clause-in_area : goal.returns-in-Some-clause-in_area
returns-in-Some-clause-in_area c db sound agrees = in_held_area c.args.schema.now c.args.capacity db c.args.unit.now c.args.held.now c.args.statement.now sound agrees.legal c.requires.of_schema c.requires.fits Ready (returns-in-Some-clause-need c db agrees)

pub returns-in-Some-next_area-clause-above : goal.returns-in-Some-next_area-clause-above
returns-in-Some-next_area-clause-above c db sound agrees turn = above_hands c.args.schema.now c.args.capacity db c.args.unit.now c.args.held.now c.args.statement.now sound turn (Area c.in-Some-next_area.area) (returns-in-Some-next_area-clause-need c db agrees)

pub returns-in-Some-next_area-clause-in_area : goal.returns-in-Some-next_area-clause-in_area
returns-in-Some-next_area-clause-in_area c db sound agrees = in_held_area c.args.schema.now c.args.capacity db c.args.unit.now c.args.held.now c.args.statement.now sound agrees.legal c.requires.of_schema c.requires.fits (Area c.in-Some-next_area.area) (returns-in-Some-next_area-clause-need c db agrees)

pub returns-in-None-next_area-clause-above : goal.returns-in-None-next_area-clause-above
returns-in-None-next_area-clause-above c db sound agrees turn = above_hands c.args.schema.now c.args.capacity db c.args.unit.now c.args.held.now c.args.statement.now sound turn c.need_with_areas.result (c.need_with_areas.ensures db agrees)

pub returns-in-None-next_area-clause-in_area : goal.returns-in-None-next_area-clause-in_area
returns-in-None-next_area-clause-in_area c db sound agrees = in_held_area c.args.schema.now c.args.capacity db c.args.unit.now c.args.held.now c.args.statement.now sound agrees.legal c.requires.of_schema c.requires.fits c.need_with_areas.result (c.need_with_areas.ensures db agrees)
