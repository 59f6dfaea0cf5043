use Rattle.std.proofs.Common.{◌∙◌, ap, sym}
use Rattle.std.specs.Prelude.{is_some}
use Rattle.std.proofs.lemmas.Bool.{false≢true}
use Rattle.dbtg_step.specs.Core.Whole.{state_now}
use Rattle.dbtg_states.specs.Inside.Items.{items_in}
use Rattle.dbtg_states.proofs.States.Spelled.{has_slot, slot_has_items}
use Rattle.dbtg_states.proofs.contents.items_of.Goals as goal

pub returns-in-Some : goal.returns-in-Some
returns-in-Some c =
    let d = c.args.database.now in
    c.items_in.ensures ∙ ap items_in c.in-Some.ensures.shows
    ∙ slot_has_items d.schema d.capacity (state_now d).database c.requires.legal c.args.key.now c.requires.live

pub returns-in-None : goal.returns-in-None
returns-in-None c =
    let d = c.args.database.now in
    absurd (false≢true (ap is_some (sym c.in-None.is) ∙ c.cell.ensures.there ∙ has_slot d.schema d.capacity (state_now d).database c.requires.legal c.args.key.now c.requires.live))
