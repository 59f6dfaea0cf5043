use Rattle.dbtg_going.proofs.Turning.{member_told}
use Rattle.dbtg_going.proofs.member.Member.told.Goals as goal

pub told-requires-clause-going : goal.told-requires-clause-going
told-requires-clause-going c = (c.requires.at.0, c.requires.at.1.going)

pub returns : goal.returns
returns c = λ entries at.
    member_told c.args.schema.now c.args.program.now entries c.args.entry.now c.args.self.now c.told.new.self at (c.in_ok-told.ensures entries at.going)
