use Rattle.std.proofs.Common.{◌≡◌, ◌∙◌, ap, sym, subst, length, None, replicate}
use Rattle.dbtg_unit.specs.declared.held.Need.TheVariants.{Stale}
use Rattle.dbtg_unit.specs.Database.State.Base.{Database}
use Rattle.dbtg_unit.specs.Hands.Guesses.{with_owners}
use Rattle.dbtg_unit.specs.Hands.Hands.{Hands}
use Rattle.dbtg_unit.specs.Hands.Local.{Agrees}
use Rattle.dbtg_unit.specs.Hands.Needs.{need, stale_owners}
use Rattle.dbtg_step.specs.Inside.Whole.{IsGuessed}
use Rattle.dbtg_step.proofs.MadeWhole.Wholes.{guessed_nothing, guessed_owners}
use Rattle.dbtg_step.proofs.whole.guess_anew.Goals as goal

pub returns-in-Stale-clause-guessed : goal.returns-in-Stale-clause-guessed
returns-in-Stale-clause-guessed c =
    let schema = c.args.schema.now in
    let old = c.args.held.now in
    let unit = c.args.unit.now in
    let x = c.args.statement.now in
    let none = c.none.ensures ∙ ap (λ n. replicate n None) (ap length c.sets.ensures.sets) in
    let blank : c.set_guesses.new.self ≡ record { areas = old.areas; cells = old.cells; guesses = replicate (length schema.sets) None } = c.set_guesses.ensures ∙ (λ i. record { areas = old.areas; cells = old.cells; guesses = none i }) in
    let is = subst (λ (h : Hands). (db : Database) → Agrees schema c.args.capacity db h unit → c.in_ok-need_once.field-0 ≡ need schema c.args.capacity db unit h x) blank c.in_ok-need_once.ensures.need in
    let owners = c.true_guesses-guesses.result in
    let then : c.set_guesses-in-Stale.new.self ≡ record { areas = old.areas; cells = old.cells; guesses = owners } = c.set_guesses-in-Stale.ensures ∙ (λ i. record { areas = (blank i).areas; cells = (blank i).cells; guesses = owners }) in
    let are = subst (λ (h : Hands). (db : Database) → Agrees schema c.args.capacity db h unit → need schema c.args.capacity db unit h x ≡ Stale → owners ≡ with_owners h.guesses (stale_owners schema c.args.capacity db unit h.guesses x)) blank (c.true_guesses-guesses.ensures c.args.capacity) in
    subst (IsGuessed schema c.args.capacity unit x old) (sym then)
    (guessed_owners schema c.args.capacity c.requires.sound unit x old c.requires.all c.requires.fitting c.requires.of_schema c.requires.within c.in_ok-need_once.field-0 is c.in-Stale.is owners are)

pub returns-in_default : goal.returns-in_default
returns-in_default c =
    let schema = c.args.schema.now in
    let old = c.args.held.now in
    let unit = c.args.unit.now in
    let x = c.args.statement.now in
    let none = c.none.ensures ∙ ap (λ n. replicate n None) (ap length c.sets.ensures.sets) in
    let blank : c.set_guesses.new.self ≡ record { areas = old.areas; cells = old.cells; guesses = replicate (length schema.sets) None } = c.set_guesses.ensures ∙ (λ i. record { areas = old.areas; cells = old.cells; guesses = none i }) in
    let is = subst (λ (h : Hands). (db : Database) → Agrees schema c.args.capacity db h unit → c.in_ok-need_once.field-0 ≡ need schema c.args.capacity db unit h x) blank c.in_ok-need_once.ensures.need in
    record {
      guessed = subst (IsGuessed schema c.args.capacity unit x old) (sym blank)
          (guessed_nothing schema c.args.capacity c.requires.sound unit x old c.requires.all c.requires.fitting c.requires.of_schema c.requires.within c.in_ok-need_once.field-0 is c.in_default.not-Stale);
      cells = ap (λ (h : Hands). h.cells) blank;
      areas = ap (λ (h : Hands). h.areas) blank;
    }
