use Rattle.std.proofs.Common.{false, refl, ◌≡◌, ℕ, List, length, Option, None, ◌∙◌, ap, sym, subst}
use Rattle.std.specs.Prelude.{replicate}
use Rattle.std.proofs.lemmas.List.{length-replicate}
use Rattle.dbtg_schema.specs.Lists.{Lists}
use Rattle.dbtg_schema.specs.Sound.{IsSound}
use Rattle.dbtg_cells.specs.declared.key.Owner.{Owner}
use Rattle.dbtg_unit.specs.Hands.Hands.{Hands}
use Rattle.dbtg_unit.specs.Database.State.Units.{opening_unit}
use Rattle.dbtg_step.specs.Inside.Events.{HaveRings}
use Rattle.dbtg_step.proofs.Public.{none_guessed}
use Rattle.dbtg_run.specs.declared.view.About.{About}
use Rattle.dbtg_run.specs.Inside.Posed.{AreInside, IsOurs, posed}
use Rattle.dbtg_run.specs.Inside.LatchRule.{IsReal}
use Rattle.dbtg_run.proofs.Units.Made.{at_work_as}
use Rattle.dbtg_run.proofs.making.newcomer.Goals as goal

pub of-requires-clause-work : goal.of-requires-clause-work
of-requires-clause-work c =
    let about = c.args.about.now in
    let unit = c.in_ok-unit.unit in let journal = c.new.result.items in let hands = c.new-2.result in
    let opens = c.in_ok-unit.ensures ∙ ap (λ (s : Lists). opening_unit s c.args.number) (sym c.requires.same) in
    let facts = at_work_as about c.args.number unit journal c.none-guesses.result hands (subst IsSound (sym c.requires.same) c.requires.sound) c.requires.number opens c.new.ensures.items c.new-2.ensures in
    let guesses : hands.guesses ≡ replicate (length c.args.schema.now.sets) None = ap (λ (h : Hands). h.guesses) c.new-2.ensures ∙ c.none-guesses.ensures ∙ ap (λ (n : ℕ). replicate n None) (ap length c.sets.ensures.sets) in
    record {
      ours = subst (λ (a : About). IsOurs a unit) (sym c.told.ensures) facts.0;
      real = subst (λ (a : About). IsReal a unit journal hands) (sym c.told.ensures) facts.1;
      rings = subst (λ (t : About × List (Option Owner)). HaveRings t.0.schema.value t.0.capacity t.1) (λ j. (sym c.told.ensures j, sym guesses j)) (none_guessed about.schema.value about.capacity (length c.args.schema.now.sets));
    }

pub of-requires-clause-idle : goal.of-requires-clause-idle
of-requires-clause-idle c = (ap (λ (h : Hands). h.areas) c.new-2.ensures, ap (λ (h : Hands). h.cells) c.new-2.ensures)

pub invariant_of-work : goal.invariant_of-work
invariant_of-work c =
    let opens = c.in_ok-unit.ensures ∙ ap (λ (s : Lists). opening_unit s c.args.number) (sym c.requires.same) in
    let many : length c.none-guesses.result ≡ length c.told.result.schema.value.sets
    = ap length c.none-guesses.ensures ∙ length-replicate (length c.sets.result.now) None ∙ ap length c.sets.ensures.sets ∙ ap (λ (s : Lists). length s.sets) (sym c.requires.same) ∙ ap (λ (a : About). length a.schema.value.sets) (sym c.told.ensures) in
    record {
      tied = c.requires.seat ∙ (λ i. posed (sym c.told.ensures i) (sym opens i) (sym c.new.ensures.items i) false (sym c.new-2.ensures i));
      inside = subst (AreInside c.told.result) (sym c.new-2.ensures) (record { areas = refl; cells = refl; guesses = many });
    }
