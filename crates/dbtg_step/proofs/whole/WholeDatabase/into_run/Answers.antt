use Rattle.std.proofs.Common.{◌≡◌, ◌∙◌, sym, subst}
use Rattle.dbtg_unit.specs.Database.State.Image.{image_of}
use Rattle.dbtg_step.specs.declared.results.Run.{Run}
use Rattle.dbtg_step.specs.Core.Whole.{IsMadeRun, Making, state_now}
use Rattle.dbtg_step.proofs.whole.WholeDatabase.into_run.Goals as goal

pub returns : goal.returns
returns c =
    let given : Run = record { results = c.of.result; image = c.in_ok-image.image; history = c.of-2.result; units = c.of-3.result } in
    subst (λ (m : Making). IsMadeRun m given) c.self.view_is (record {
      results_are = c.of.ensures ∙ c.new.ensures.items;
      history_is = c.of-2.ensures;
      history_of = c.self.invariant.history_of;
      image_is = subst (λ (m : Making). c.in_ok-image.image ≡ image_of m.schema m.capacity (state_now m).database) (sym c.self.view_is) c.in_ok-image.ensures;
      units_are = c.of-3.ensures ∙ c.self.invariant.units_are;
    })
