use Rattle.std.proofs.Common.{◌∙◌, false, sym, true}
use Rattle.dbtg_page.specs.Changes.{name_by}
use Rattle.dbtg_page.specs.Inside.Telling.{names}
use Rattle.dbtg_page.proofs.Positions.{met_none, met_some, placed}
use Rattle.dbtg_page.proofs.changes.met.Goals as goal

pub returns-in_err-place-clause-met : goal.returns-in_err-place-clause-met
returns-in_err-place-clause-met c =
    let name = name_by c.args.kind c.args.part.now in
    let at = placed c.args.kind c.args.old.now c.name_by.result.now name c.place_of.result c.name_by.ensures c.place_of.ensures in
    c.from_residual.ensures ∙ sym (met_none (names c.args.kind c.args.old.now) name (names c.args.kind c.args.later.now) (at ∙ c.in_err-place.was))

pub returns-then-stays-clause-met : goal.returns-then-stays-clause-met
returns-then-stays-clause-met c =
    let name = name_by c.args.kind c.args.part.now in
    let at = placed c.args.kind c.args.old.now c.name_by.result.now name c.place_of.result c.name_by.ensures c.place_of.ensures in
    sym (met_some (names c.args.kind c.args.old.now) name (names c.args.kind c.args.later.now) c.in_ok-place.place true (at
    ∙ c.in_ok-place.was) (sym c.stays.ensures ∙ c.if-stays.true))

pub returns-else-stays-clause-met : goal.returns-else-stays-clause-met
returns-else-stays-clause-met c =
    let name = name_by c.args.kind c.args.part.now in
    let at = placed c.args.kind c.args.old.now c.name_by.result.now name c.place_of.result c.name_by.ensures c.place_of.ensures in
    sym (met_some (names c.args.kind c.args.old.now) name (names c.args.kind c.args.later.now) c.in_ok-place.place false (at
    ∙ c.in_ok-place.was) (sym c.stays.ensures ∙ c.if-stays.false))
