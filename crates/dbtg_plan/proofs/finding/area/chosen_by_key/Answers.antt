use Rattle.std.proofs.Common.{◌∙◌, sym, ap}
use Rattle.std.specs.Prelude.{is_some}
use Rattle.dbtg_unit.specs.Database.Statements.Found.{chosen_by_key}
use Rattle.dbtg_plan.specs.Inside.Finding.{area_keys_in}
use Rattle.dbtg_plan.proofs.Find.ChosenKeys.{last_chosen, next_chosen, no_next, no_prior, prior_chosen}
use Rattle.dbtg_plan.proofs.finding.area.chosen_by_key.Goals as goal

pub returns-in-Last : goal.returns-in-Last
returns-in-Last c =
    let keys = area_keys_in c.args.schema.now c.args.held.now c.args.named.now c.args.area in
    c.last_key.ensures ∙ last_chosen c.args.current.now keys ∙ ap (λ w. chosen_by_key w c.args.current.now keys) (sym c.in-Last.is)

pub returns-in-Some : goal.returns-in-Some
returns-in-Some c =
    let keys = area_keys_in c.args.schema.now c.args.held.now c.args.named.now c.args.area in
    c.first_key-in-Some.ensures ∙ next_chosen c.args.current.now keys (ap is_some c.in-Some.is) ∙ ap (λ w. chosen_by_key w c.args.current.now keys) (sym c.in-Next.is)

pub returns-in-None : goal.returns-in-None
returns-in-None c =
    let keys = area_keys_in c.args.schema.now c.args.held.now c.args.named.now c.args.area in
    no_next c.args.current.now keys (ap is_some c.in-None.is) ∙ ap (λ w. chosen_by_key w c.args.current.now keys) (sym c.in-Next.is)

pub returns-in-Some-current : goal.returns-in-Some-current
returns-in-Some-current c =
    let keys = area_keys_in c.args.schema.now c.args.held.now c.args.named.now c.args.area in
    c.last_key-in-Some-current.ensures ∙ prior_chosen c.args.current.now keys (ap is_some c.in-Some-current.is) ∙ ap (λ w. chosen_by_key w c.args.current.now keys) (sym c.in-Prior.is)

pub returns-in-None-current : goal.returns-in-None-current
returns-in-None-current c =
    let keys = area_keys_in c.args.schema.now c.args.held.now c.args.named.now c.args.area in
    no_prior c.args.current.now keys (ap is_some c.in-None-current.is) ∙ ap (λ w. chosen_by_key w c.args.current.now keys) (sym c.in-Prior.is)
