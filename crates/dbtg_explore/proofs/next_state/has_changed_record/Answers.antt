use Rattle.std.proofs.Common.{◌∙◌, sym}
use Rattle.dbtg_explore.proofs.Next.{records_stay}
use Rattle.dbtg_explore.proofs.next_state.has_changed_record.Goals as goal

pub returns : goal.returns
returns c = λ none. records_stay c.args.walk.now.database.making c.changed.result.now (c.changed.ensures.changed c.requires) (sym c.has_slot.ensures ∙ none)
