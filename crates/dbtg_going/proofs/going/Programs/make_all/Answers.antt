use Rattle.std.specs.Prelude.{option_map}
use Rattle.dbtg_going.proofs.Turning.{on_ok}
use Rattle.dbtg_going.proofs.FirstAndLast.{all_made}
use Rattle.dbtg_going.proofs.going.Programs.make_all.Goals as goal

pub returns : goal.returns
returns c =
    on_ok c.make_last.result
    (λ last.
    all_made c.args.self.now.schema.now c.args.self.now.list.now c.args.self.now.around c.args.database.now c.make_first.new.database c.make_others.new.database c.make_last.new.database (option_map (λ t. t.now) c.args.turns) c.make_first.new.members
    c.make_others.new.members c.make_last.new.members c.requires.opening c.in_ok-make_first.ensures c.in_ok-make_others.ensures last)
    c.make_last.ensures
