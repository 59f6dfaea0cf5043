use Rattle.std.proofs.Common.{◌≡◌, Some, None, Option, ap, subst, ◌∙◌}
use Rattle.std.specs.Prelude.{option_map}
use Rattle.dbtg_unit.specs.declared.unit.Unit.{Unit}
use Rattle.dbtg_step.specs.declared.parts.UnitState.{UnitState as CoreUnit}
use Rattle.dbtg_step.specs.Machine.SequentialDatabase.{unit_at}
use Rattle.dbtg_step.specs.Machine.Machine.{UnitState}
use Rattle.dbtg_step.specs.Machine.Network.{network}
use Rattle.dbtg_step.specs.Core.Core.{state_now}
use Rattle.dbtg_step.specs.Core.Parts.{CoreParts, machine}
use Rattle.dbtg_step.proofs.TheCore.CoreShown.{unit_led_to}
use Rattle.dbtg_step.proofs.TheCore.QuitShown.{unit_shown}
use Rattle.dbtg_step.proofs.machine.Core.unit.Goals as goal

pub returns-in-Some : goal.returns-in-Some
returns-in-Some c =
    let inside = c.self.inside in
    let items = inside.parts.runners.items in
    let there : Some c.in-Some.runner.now ≡ unit_at items c.args.number = c.in-Some.ensures ∙ ap (λ xs. unit_at xs c.args.number) c.as_slice.ensures.value in
    let here : Some c.in-Some.runner.now.unit ≡ option_map (λ (x : CoreUnit). x.unit) (unit_at items c.args.number) = ap (option_map (λ (x : CoreUnit). x.unit)) there in
    record {
      machine = subst (λ (v : CoreParts). ◌≡◌ {A = Option Unit} (Some c.in-Some.runner.now.unit) (option_map (λ (x : UnitState (network v.schema v.capacity)). x.unit) (unit_at (machine v).state.units c.args.number))) c.self.view_is
          (here ∙ unit_shown inside.schema inside.capacity c.args.number inside.parts.table.items inside.parts.history.items items);
      sequential = subst (λ (v : CoreParts). ◌≡◌ {A = Option Unit} (Some c.in-Some.runner.now.unit) (unit_at (state_now v).units c.args.number)) c.self.view_is
          (here ∙ unit_led_to inside.schema inside.capacity inside.parts c.self.invariant c.args.number);
    }

pub returns-in-None : goal.returns-in-None
returns-in-None c =
    let inside = c.self.inside in
    let items = inside.parts.runners.items in
    let none : None ≡ unit_at items c.args.number = c.in-None.ensures ∙ ap (λ xs. unit_at xs c.args.number) c.as_slice.ensures.value in
    let here : None ≡ option_map (λ (x : CoreUnit). x.unit) (unit_at items c.args.number) = ap (option_map (λ (x : CoreUnit). x.unit)) none in
    record {
      machine = subst (λ (v : CoreParts). ◌≡◌ {A = Option Unit} None (option_map (λ (x : UnitState (network v.schema v.capacity)). x.unit) (unit_at (machine v).state.units c.args.number))) c.self.view_is
          (here ∙ unit_shown inside.schema inside.capacity c.args.number inside.parts.table.items inside.parts.history.items items);
      sequential = subst (λ (v : CoreParts). ◌≡◌ {A = Option Unit} None (unit_at (state_now v).units c.args.number)) c.self.view_is
          (here ∙ unit_led_to inside.schema inside.capacity inside.parts c.self.invariant c.args.number);
    }
