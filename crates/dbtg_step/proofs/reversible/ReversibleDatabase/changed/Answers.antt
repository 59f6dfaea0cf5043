use Rattle.std.proofs.Common.{◌≡◌, ◌∙◌, ◌-◌, List, true, not, ap, arith, length, slice_get, subst, sym}
use Rattle.std.specs.Prelude.{option_copied}
use Rattle.std.specs.List.{list_all}
use Rattle.dbtg_cells.specs.CellNumbers.{is_cell}
use Rattle.dbtg_cells.specs.Names.{name_eq}
use Rattle.dbtg_unit.specs.Database.State.Legal.{pairwise}
use Rattle.dbtg_step.specs.declared.way_back.WayBack.{WayBack}
use Rattle.dbtg_step.specs.Core.Reversible.{OnlyLastChanged, Reversible}
use Rattle.dbtg_step.proofs.MadeWhole.Reversals.{last_changed, none_last, over_last}
use Rattle.dbtg_step.proofs.reversible.ReversibleDatabase.changed.Goals as goal

pub returns-in-Some-clause-changed : goal.returns-in-Some-clause-changed
returns-in-Some-clause-changed c = λ below.
    let at = sym (ap (λ (ws : List WayBack). slice_get ws (length ws - 1)) c.deref.ensures.value) ∙ sym c.last.ensures.value ∙ ap option_copied c.in-Some.is in
    subst (λ (r : Reversible). OnlyLastChanged r.making c.as_slice.result.now) c.self.view_is
    (subst (OnlyLastChanged c.self.inside.database) (sym c.as_slice.ensures) (last_changed c.self.inside.database c.self.inside.ways.items c.self.invariant c.in-Some.way.now at))

pub returns-in-Some-clause-cells : goal.returns-in-Some-clause-cells
returns-in-Some-clause-cells c =
    let at = sym (ap (λ (ws : List WayBack). slice_get ws (length ws - 1)) c.deref.ensures.value) ∙ sym c.last.ensures.value ∙ ap option_copied c.in-Some.is in
    subst (λ (r : Reversible). list_all (is_cell r.making.schema r.making.capacity) c.as_slice.result.now ≡ true) c.self.view_is
    (ap (list_all (is_cell c.self.inside.database.schema c.self.inside.database.capacity)) c.as_slice.ensures ∙ (over_last c.self.inside.database c.self.inside.ways.items c.self.invariant c.in-Some.way.now at).are_cells)

pub returns-in-Some-clause-once : goal.returns-in-Some-clause-once
returns-in-Some-clause-once c =
    let at = sym (ap (λ (ws : List WayBack). slice_get ws (length ws - 1)) c.deref.ensures.value) ∙ sym c.last.ensures.value ∙ ap option_copied c.in-Some.is in
    ap (pairwise (λ x y. not (name_eq x y))) c.as_slice.ensures ∙ (over_last c.self.inside.database c.self.inside.ways.items c.self.invariant c.in-Some.way.now at).once

pub returns-in-None-clause-changed : goal.returns-in-None-clause-changed
returns-in-None-clause-changed c = λ below.
    let at = sym (ap (λ (ws : List WayBack). slice_get ws (length ws - 1)) c.deref.ensures.value) ∙ sym c.last.ensures.value ∙ ap option_copied c.in-None.is in
    let none = none_last c.self.inside.database c.self.inside.ways.items c.self.invariant at in
    let stays = ap (λ (r : Reversible). r.stays) c.self.view_is in
    let count = ap (λ (r : Reversible). length r.making.history) c.self.view_is in
    absurd (omega (arith, below, none, stays, count))
