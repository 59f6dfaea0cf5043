use Rattle.std.proofs.Common.{◌∙◌, sym}
use Rattle.dbtg_cells.proofs.OwnersAlone.{none_behind, none_but_between}
use Rattle.dbtg_cells.proofs.record_owners.is_alone.Goals as goal

pub returns-in-None : goal.returns-in-None
returns-in-None c = λ none. none_behind c.args.owners.now c.args.set c.split_at.result.0.now c.split_at.result.1.now c.split_at.ensures.front c.split_at.ensures.back c.in-None.ensures.cases (sym c.are_none.ensures ∙ none)

pub returns-then-are_none : goal.returns-then-are_none
returns-then-are_none c = λ none.
    none_but_between c.args.owners.now c.args.set c.split_at.result.0.now c.in-Some.behind.now c.in-Some.field-0-0.now
    c.split_at.ensures.front (sym c.split_at.ensures.back ∙ c.in-Some.ensures.cases.0)
    (sym c.are_none-in-Some.ensures ∙ c.if-are_none.true) (sym c.are_none-then-are_none.ensures ∙ none)
