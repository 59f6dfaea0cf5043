use Rattle.std.proofs.Common.{◌≡◌, ◌∙◌, ◌++◌, [], ap, length, map, subst}
use Rattle.std.specs.List.{range_with_len}
use Rattle.dbtg_unit.specs.Database.State.Image.{image_of}
use Rattle.dbtg_script.specs.Printing.Texts.{run_text}
use Rattle.dbtg_step.specs.Core.Whole.{Making, state_now}
use Rattle.dbtg_going.specs.Goings.{comes_of}
use Rattle.dbtg_going.specs.Texts.{programs_text}
use Rattle.dbtg_going.proofs.Turning.{if_both}
use Rattle.dbtg_states.specs.Users.{by_unit}
use Rattle.dbtg_explore.specs.Orders.{Meeting}
use Rattle.dbtg_explore.specs.Results.{reached_of}
use Rattle.dbtg_explore.proofs.Placed.{text_is}
use Rattle.dbtg_explore.proofs.meeting.Meeting.text.Goals as goal

pub returns : goal.returns
returns c =
    let image = c.in_ok-image.image in
    let units = c.in_ok-units.units in
    let image_is = c.in_ok-image.ensures ∙ ap (λ (d : Making). image_of d.schema d.capacity (state_now d).database) c.database.ensures in
    let reached_is = c.as_slice-2.ensures.value ∙ c.in_ok-reached.ensures ∙ ap (map (λ g. reached_of (comes_of g))) c.as_slice.ensures.value in
    if_both c.told_text.result
    (λ text is same. text_is c.args.self.now c.args.walk.now.database.making c.args.walk.now.goings.items c.requires.place image image_is units c.in_ok-units.ensures c.as_slice-2.result.now reached_is text.items
    (subst (λ (m : Meeting). text.items ≡ run_text m.schema [] image.records image.lists image.next (map (by_unit (range_with_len 1 (length m.programs))) image.usage) units ++ programs_text 1 m.programs c.as_slice-2.result.now) c.self.view_is is))
    c.told_text.ensures c.told_text.ensures
