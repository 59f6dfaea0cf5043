use Rattle.std.proofs.Common.{◌≡◌, ◌∙◌, ap, sym, subst, Some}
use Rattle.std.specs.Prelude.{slice_get}
use Rattle.dbtg_cells.proofs.Public.{numbered_at}
use Rattle.dbtg_unit.specs.Database.State.Base.{opening}
use Rattle.dbtg_unit.specs.Hands.Hands.{Hands}
use Rattle.dbtg_unit.specs.Hands.Local.{AllAgree, names_of}
use Rattle.dbtg_step.specs.Core.Openings.{homes_of, homes_shown}
use Rattle.dbtg_step.specs.Inside.Openings.{homes_opened}
use Rattle.dbtg_step.proofs.TheCore.OpeningShown.{agree_beside, all_open, as_many, names_beside}
use Rattle.dbtg_step.proofs.opening_parts.hold_opening_cells.Goals as goal

pub numbered-requires-clause-numbered : goal.numbered-requires-clause-numbered
numbered-requires-clause-numbered c =
    λ n name within e. c.of-layout.ensures name n (numbered_at c.args.schema.now c.args.capacity n name (subst (λ names. slice_get names n ≡ Some name) c.in_ok-names.ensures e))

pub numbered-requires-clause-named : goal.numbered-requires-clause-named
numbered-requires-clause-named c =
    let schema = c.args.schema.now in
    let capacity = c.args.capacity in
    let shows : homes_shown c.in_ok-cells.cells.items ≡ homes_of schema capacity c.in_ok-names.names.items = c.in_ok-cells.ensures ∙ ap (homes_opened capacity) c.as_slice.ensures.value ∙ all_open schema capacity c.in_ok-names.names.items c.in_ok-names.ensures in
    as_many schema capacity c.in_ok-names.names.items c.in_ok-cells.cells.items shows

pub returns-clause-names : goal.returns-clause-names
returns-clause-names c =
    let schema = c.args.schema.now in
    let capacity = c.args.capacity in
    let names = c.in_ok-names.names.items in
    let cells = c.in_ok-cells.cells.items in
    let shows : homes_shown cells ≡ homes_of schema capacity names = c.in_ok-cells.ensures ∙ ap (homes_opened capacity) c.as_slice.ensures.value ∙ all_open schema capacity c.in_ok-names.names.items c.in_ok-names.ensures in
    ap (λ (h : Hands). names_of h.cells) c.numbered.ensures ∙ names_beside schema capacity names cells (as_many schema capacity names cells shows) ∙ c.in_ok-names.ensures

pub returns-clause-cells : goal.returns-clause-cells
returns-clause-cells c =
    let schema = c.args.schema.now in
    let capacity = c.args.capacity in
    let names = c.in_ok-names.names.items in
    let cells = c.in_ok-cells.cells.items in
    let shows : homes_shown cells ≡ homes_of schema capacity names = c.in_ok-cells.ensures ∙ ap (homes_opened capacity) c.as_slice.ensures.value ∙ all_open schema capacity c.in_ok-names.names.items c.in_ok-names.ensures in
    subst (λ (h : Hands). AllAgree schema capacity (opening schema) h.cells) (sym c.numbered.ensures) (agree_beside schema capacity names cells shows)
