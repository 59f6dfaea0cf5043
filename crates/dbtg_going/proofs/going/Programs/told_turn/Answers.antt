use Rattle.std.proofs.Common.{sym, ◌∙◌}
use Rattle.dbtg_going.proofs.FirstAndLast.{not_heard}
use Rattle.dbtg_going.proofs.going.Programs.told_turn.Goals as goal

pub returns-else-is_heard : goal.returns-else-is_heard
returns-else-is_heard c =
    not_heard c.args.self.now.schema.now c.args.self.now.list.now c.args.self.now.around c.args.database.now c.args.members.now c.args.unit c.requires.under_way (sym c.is_heard.ensures ∙ c.if-is_heard.false)
