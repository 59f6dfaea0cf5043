use Rattle.std.proofs.Common.{◌∙◌, sym, ap, eqb, ℕ, List, map}
use Rattle.std.specs.List.{list_any}
use Rattle.dbtg_schema.specs.Structure.{rekeyed_sets}
use Rattle.dbtg_unit.specs.declared.statement.Change.{Change}
use Rattle.dbtg_unit.specs.declared.statement.Statement.{Statement}
use Rattle.dbtg_unit.specs.Hands.Needs.{guessed_sets}
use Rattle.dbtg_plan.proofs.Needs.WrongGuesses.{rekeyed_is}
use Rattle.dbtg_plan.proofs.stale.is_guessed.Goals as goal

pub returns-in-Modify : goal.returns-in-Modify
returns-in-Modify c =
    let schema = c.args.schema.now in
    let set = c.args.set in
    let named : List Change → List ℕ = map (λ (x : Change). x.item) in
    c.is_rekeyed_in.ensures
    ∙ rekeyed_is schema c.in-Modify.rtype (named c.as_slice.result.now) set c.requires
    ∙ ap (λ (changes : List Change). list_any (λ s. eqb s set) (rekeyed_sets schema c.in-Modify.rtype (named changes))) (c.as_slice.ensures ∙ c.get.ensures)
    ∙ ap (λ (x : Statement). list_any (λ s. eqb s set) (guessed_sets schema c.args.unit.now x)) (sym c.in-Modify.is)
