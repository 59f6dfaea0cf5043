use Rattle.std.proofs.Common.{◌+◌, length, ap, ◌∙◌, sym, arith}
use Rattle.dbtg_script.specs.Moves.{refused_word}
use Rattle.dbtg_script.proofs.Reading.MoveSteps.{no_move, too_many, moves_on}
use Rattle.dbtg_script.proofs.moves.take_word.Goals as goal

pub returns-in-None-clause-refused : goal.returns-in-None-clause-refused
returns-in-None-clause-refused g c = λ left. no_move (length c.args.entries.now.items) c.args.number c.args.said left c.in-None.is

pub returns-then-len-found-clause-refused : goal.returns-then-len-found-clause-refused
returns-then-len-found-clause-refused g c = λ left. too_many (length c.args.entries.now.items) c.args.number c.args.said left c.in-Some.found.0 c.in-Some.found.1 c.in-Some.is (omega arith)

pub returns-in_ok-push_times-in-Some-clause-reached : goal.returns-in_ok-push_times-in-Some-clause-reached
returns-in_ok-push_times-in-Some-clause-reached g c = λ left.
    moves_on c.args.entries.now.items c.args.number c.args.said left c.in-Some.found.0 c.in-Some.found.1 c.in-Some.is (omega arith)
    ∙ ap (λ ms. refused_word (length ms) (c.args.number + 1) left) (sym c.in_ok-push_times-in-Some.ensures)
