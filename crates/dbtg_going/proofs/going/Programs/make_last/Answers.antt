use Rattle.std.proofs.Common.{inl, inr, sym, ◌∙◌}
use Rattle.dbtg_going.proofs.FirstAndLast.{nothing_last}
use Rattle.dbtg_going.proofs.going.Programs.make_last.Goals as goal
use Rattle.dbtg_going.proofs.going.Programs.make_last.Goals.{else-self-via-then-self+else-have_ended, else-self-via-else-self}

pub returns : goal.returns
returns c =
    nothing_last c.args.self.now.schema.now c.args.self.now.list.now c.args.self.now.around c.args.database.now c.args.members.now c.requires.under_way (elim c.else-self.branch [
      | else-self-via-then-self+else-have_ended w ↦ inr (sym (w.have_ended.ensures c.args.database.now c.requires.under_way) ∙ w.if-have_ended.false)
      | else-self-via-else-self w ↦ inl w.if-self.false
    ])
