use Rattle.std.proofs.Common.{Some, ap, sym, ◌∙◌}
use Rattle.std.specs.Prelude.{is_none}
use Rattle.dbtg_going.proofs.Turning.{at_index, said_by}
use Rattle.dbtg_going.proofs.going.Programs.has_ended.Goals as goal

pub returns : goal.returns
returns c = λ making w.
    let members = c.args.members.now in
    let member = c.index-members-unit.result in
    let found = at_index members c.args.unit member c.requires.numbered c.requires.within ∙ ap Some (sym c.index-members-unit.is) in
    c.has_ended.ensures ∙ ap is_none (said_by c.args.self.now.schema.now c.args.self.now.list.now making members w c.args.unit member found)
