use Rattle.std.proofs.Common.{◌∙◌, [], subst}
use Rattle.dbtg_step.specs.Core.Turns.{AreGiven}
use Rattle.dbtg_step.proofs.taking_turns.moves_of_turns.Goals as goal

pub returns : goal.returns
returns c =
    let turned = c.in_ok-take_turns.ensures in
    let given = c.into_moves.result in
    let are = c.into_moves.ensures turned.moves (turned.noted.noted [] c.new-noted.ensures.nothing) in
    (turned.moves, turned.lead, subst (λ n. AreGiven n turned.moves given) (turned.noted.limit ∙ c.new-noted.ensures.limit) are)
