use Rattle.std.proofs.Common.{sym, ◌∙◌, ap, length}
use Rattle.std.proofs.lemmas.List.{length-map}
use Rattle.std.proofs.lemmas.List.FromFn.{length-range_with_len}
use Rattle.dbtg_schema.specs.Structure.{set_numbers}
use Rattle.dbtg_unit.specs.Hands.Guesses.{with_owners}
use Rattle.dbtg_unit.specs.Hands.Needs.{guessed_sets}
use Rattle.dbtg_plan.specs.Inside.Stale.{wrong_owner_in}
use Rattle.dbtg_plan.proofs.Needs.WrongGuesses.{owners_of_stale, stale_has_current}
use Rattle.dbtg_plan.proofs.stale.true_guesses.Goals as goal

pub with_owners-requires : goal.with_owners-requires
with_owners-requires c =
    ap length c.guesses.ensures ∙ c.requires.count
    ∙ sym (
    ap length c.wrong_owners_in-owners.ensures
    ∙ length-map (set_numbers c.args.schema.now) (wrong_owner_in c.args.held.now (guessed_sets c.args.schema.now c.args.unit.now c.args.statement.now) c.in-Some.key)
    ∙ length-range_with_len 0 (length c.args.schema.now.sets)
    )

pub returns-in-Some : goal.returns-in-Some
returns-in-Some c capacity db agrees stale =
    let owners = c.wrong_owners_in-owners.ensures ∙ sym (owners_of_stale c.args.schema.now capacity db c.args.held.now c.args.unit.now c.args.statement.now c.requires.fits agrees stale c.in-Some.key c.in-Some.is) in
    c.with_owners.ensures ∙ (λ i. with_owners (c.guesses.ensures i) (owners i))

pub returns-in-None : goal.returns-in-None
returns-in-None c capacity db agrees stale =
    absurd (stale_has_current c.args.schema.now capacity db c.args.held.now c.args.unit.now c.args.statement.now c.requires.fits agrees stale c.in-None.is)
