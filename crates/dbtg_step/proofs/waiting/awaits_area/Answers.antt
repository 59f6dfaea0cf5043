use Rattle.std.proofs.Common.{◌≡◌, ◌||◌, take, drop, sym, subst, ◌-◌, arith}
use Rattle.std.specs.List.{list_any}
use Rattle.dbtg_cells.proofs.Public.{there_is}
use Rattle.dbtg_step.specs.Inside.Parts.{core_of}
use Rattle.dbtg_step.specs.Inside.Stands.{holds_against}
use Rattle.dbtg_step.specs.Inside.Waiting.{IsAwaited}
use Rattle.dbtg_step.proofs.TheCore.WaitingShown.{area_awaited}
use Rattle.dbtg_step.proofs.waiting.awaits_area.Goals as goal

pub returns : goal.returns
returns c schema capacity well needs =
    let items = c.args.parts.now.runners.items in
    let it = there_is items (c.args.unit - 1) (omega (arith, c.requires.within, c.requires.numbered)) in
    let others : list_any (holds_against c.args.progress.exclusive c.args.area) (take (c.args.unit - 1) items) || list_any (holds_against c.args.progress.exclusive c.args.area) (drop c.args.unit items) ≡ c.other_holds_against-is_held.result =
    rw (c.deref.ensures.value) at (sym c.other_holds_against-is_held.ensures) in
    subst (IsAwaited (core_of schema capacity c.args.parts.now) c.args.unit) (sym c.where_held.ensures)
    (area_awaited schema capacity c.args.unit c.args.parts.now well it.0 c.requires.numbered it.1 c.args.progress (c.requires.stands it.0 it.1) c.args.area needs c.other_holds_against-is_held.result others)
