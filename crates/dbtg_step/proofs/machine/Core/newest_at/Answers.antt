use Rattle.std.proofs.Common.{◌≡◌, Some, None, Option, ap, subst, ◌∙◌}
use Rattle.std.specs.Prelude.{option_map}
use Rattle.dbtg_step.specs.declared.parts.UnitState.{UnitState}
use Rattle.dbtg_step.specs.declared.watching.Newest.{Newest}
use Rattle.dbtg_step.specs.Machine.SequentialDatabase.{unit_at}
use Rattle.dbtg_step.specs.Core.Parts.{CoreParts, machine, unit_state_of}
use Rattle.dbtg_step.specs.Core.Newest.{newest_at, newest_of}
use Rattle.dbtg_step.proofs.TheCore.PositionsShown.{read_of_unit}
use Rattle.dbtg_step.proofs.machine.Core.newest_at.Goals as goal

pub returns-in-Some : goal.returns-in-Some
returns-in-Some c =
    let inside = c.self.inside in
    let items = inside.parts.runners.items in
    let there : Some c.in-Some.runner.now ≡ unit_at items c.args.number = c.in-Some.ensures ∙ ap (λ xs. unit_at xs c.args.number) c.as_slice.ensures.value in
    let here = c.newest_of.ensures inside.schema inside.capacity in
    subst (λ (v : CoreParts). ◌≡◌ {A = Option Newest} (Some c.newest_of.result) (newest_at (machine v) c.args.number)) c.self.view_is
    (ap Some here ∙ ap (option_map (λ (x : UnitState). newest_of (unit_state_of inside.schema inside.capacity x))) there ∙ read_of_unit inside.schema inside.capacity newest_of c.args.number inside.parts.table.items inside.parts.history.items items)

pub returns-in-None : goal.returns-in-None
returns-in-None c =
    let inside = c.self.inside in
    let items = inside.parts.runners.items in
    let none : None ≡ unit_at items c.args.number = c.in-None.ensures ∙ ap (λ xs. unit_at xs c.args.number) c.as_slice.ensures.value in
    subst (λ (v : CoreParts). ◌≡◌ {A = Option Newest} None (newest_at (machine v) c.args.number)) c.self.view_is
    (ap (option_map (λ (x : UnitState). newest_of (unit_state_of inside.schema inside.capacity x))) none ∙ read_of_unit inside.schema inside.capacity newest_of c.args.number inside.parts.table.items inside.parts.history.items items)
