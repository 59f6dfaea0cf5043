use Rattle.std.proofs.Common.{◌≡◌, ◌||◌, true, false, Some, slice_get, length, take, drop, refl, sym, ◌∙◌, ◌-◌, arith}
use Rattle.std.specs.List.{list_any}
use Rattle.std.proofs.lemmas.Option.{slice_get_read}
use Rattle.dbtg_cells.proofs.Public.{there_is}
use Rattle.dbtg_step.specs.Inside.Stands.{holds_against}
use Rattle.dbtg_step.proofs.TheCore.FollowsShown.{area_blocked, area_refused, area_taken}
use Rattle.dbtg_step.proofs.needing.take_area_event.Goals as goal

pub returns-then-other_holds_against : goal.returns-then-other_holds_against
returns-then-other_holds_against c schema capacity well needs =
    let items = c.args.parts.now.runners.items in
    let it = there_is items (c.args.unit - 1) (omega (arith, c.requires.within, c.requires.numbered)) in
    let others : list_any (holds_against c.args.progress.exclusive c.args.area) (take (c.args.unit - 1) items) || list_any (holds_against c.args.progress.exclusive c.args.area) (drop c.args.unit items) ≡ true =
    rw (c.deref.ensures.value) at (sym c.other_holds_against.ensures ∙ c.if-other_holds_against.true) in
    area_blocked schema capacity c.args.unit c.args.parts.now it.0 well c.requires.numbered it.1 c.args.progress (c.requires.stands it.0 it.1) c.args.area needs _ others refl refl refl

pub returns-in-Ok : goal.returns-in-Ok
returns-in-Ok c schema capacity well needs =
    let runner = c.index_mut.result.now in
    let items = c.args.parts.now.runners.items in
    let at : slice_get items (c.args.unit - 1) ≡ Some runner = slice_get_read items (length items) (c.args.unit - 1) runner refl (omega (arith, c.requires.within, c.requires.numbered)) c.index_mut.ensures.value in
    let others : list_any (holds_against c.args.progress.exclusive c.args.area) (take (c.args.unit - 1) items) || list_any (holds_against c.args.progress.exclusive c.args.area) (drop c.args.unit items) ≡ false =
    rw (c.deref.ensures.value) at (sym c.other_holds_against.ensures ∙ c.if-other_holds_against.false) in
    area_taken schema capacity c.args.unit c.args.parts.now runner well c.requires.numbered at c.args.progress (c.requires.stands runner at) c.args.area needs _ _ c.push_area.new.self others refl refl refl c.in-Ok.ensures.ok refl

pub returns-in-Err : goal.returns-in-Err
returns-in-Err c schema capacity well needs =
    let runner = c.index_mut.result.now in
    let items = c.args.parts.now.runners.items in
    let at : slice_get items (c.args.unit - 1) ≡ Some runner = slice_get_read items (length items) (c.args.unit - 1) runner refl (omega (arith, c.requires.within, c.requires.numbered)) c.index_mut.ensures.value in
    let others : list_any (holds_against c.args.progress.exclusive c.args.area) (take (c.args.unit - 1) items) || list_any (holds_against c.args.progress.exclusive c.args.area) (drop c.args.unit items) ≡ false =
    rw (c.deref.ensures.value) at (sym c.other_holds_against.ensures ∙ c.if-other_holds_against.false) in
    area_refused schema capacity c.args.unit c.args.parts.now runner well c.requires.numbered at c.args.progress (c.requires.stands runner at) c.args.area needs _ _ c.push_area.new.self others refl refl refl c.in-Err.ensures.err refl
