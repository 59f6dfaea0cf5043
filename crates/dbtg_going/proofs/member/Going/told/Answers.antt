use Rattle.dbtg_going.proofs.Turning.{stands_there, told_on}
use Rattle.dbtg_going.proofs.member.Going.told.Goals as goal

pub told-requires : goal.told-requires
told-requires c = stands_there c.args.schema.now c.args.program.now c.requires.going.0 c.args.self.now c.args.entry.now.statement c.requires.going.1 c.requires.due

pub returns : goal.returns
returns c = λ entries at.
    told_on c.args.schema.now c.args.program.now entries c.args.entry.now c.args.self.now c.told.new.self c.next.new.state c.in_ok-self.field-0 at c.requires.due c.in_ok-told.ensures.told c.in_ok-self.ensures.due c.in_ok-self.ensures.stands
