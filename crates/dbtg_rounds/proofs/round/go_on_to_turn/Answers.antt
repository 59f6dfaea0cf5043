-- Where the unit has a turn already, none is appended.
use Rattle.std.proofs.Common.{[], sym, append-nil}
use Rattle.dbtg_rounds.proofs.Walks.{no_turn}
use Rattle.dbtg_rounds.proofs.round.go_on_to_turn.Goals as goal

pub returns-then-contains-clause-leads : goal.returns-then-contains-clause-leads
returns-then-contains-clause-leads c = λ _. record {
  further = [];
  units_are = sym (append-nil c.args.taken.now.units.items);
  leads = no_turn c.args.graph.now.edges c.args.within.now c.args.taken.now.end;
  marked = c.requires.end.0;
}
