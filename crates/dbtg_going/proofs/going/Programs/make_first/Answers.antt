use Rattle.std.proofs.Common.{rules, ◌≡◌, false}
use Rattle.dbtg_going.proofs.FirstAndLast.{nothing_first}
use Rattle.dbtg_going.proofs.going.Programs.make_first.Goals as goal

pub returns-then-not-self : goal.returns-then-not-self
returns-then-not-self c =
    let none : c.args.self.now.around.first ≡ false = search (rules, c.if-not-self.true) in
    nothing_first c.args.self.now.schema.now c.args.self.now.list.now c.args.self.now.around c.args.database.now c.args.members.now c.requires.under_way none
