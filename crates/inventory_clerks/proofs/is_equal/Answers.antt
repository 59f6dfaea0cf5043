use Rattle.std.proofs.Common.{◌≡◌, List, ap, ◌∙◌, subst}
use Rattle.std.specs.Prelude.{MatchOption}
use Rattle.dbtg_unit.specs.Database.Laws.Replay.{IsHistoryOf}
use Rattle.dbtg_unit.specs.declared.unit.Entry.{Entry}
use Rattle.inventory_clerks.specs.declared.TheConstants.{CAPACITY, UNITS}
use Rattle.inventory_clerks.specs.Inside.Auditing.{IsTextOf, text_of}
use Rattle.inventory_clerks.proofs.Audited.{found_is_left}
use Rattle.inventory_clerks.proofs.is_equal.Goals as goal

pub returns : goal.returns
returns c equal =
    let settled = c.args.settled.now in
    let left : c.as_slice-3.result.now ≡ text_of settled.schema settled.image settled.units = c.as_slice-3.ensures.value ∙ c.in_ok-left.ensures ∙ ap (text_of settled.schema settled.image) c.as_slice.ensures in
    let audited = subst (λ (h : List Entry). MatchOption c.in_ok-found.found (IsHistoryOf settled.schema CAPACITY UNITS h → ⊥) (λ out. IsTextOf settled.schema CAPACITY UNITS h out.items)) c.as_slice-2.ensures c.in_ok-found.ensures in
    found_is_left (λ out. out.items) settled.schema CAPACITY UNITS settled.history c.in_ok-found.found _ _ audited (c.is_found.ensures equal) left
