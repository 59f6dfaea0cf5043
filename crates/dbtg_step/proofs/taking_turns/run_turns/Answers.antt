use Rattle.std.proofs.Common.{subst}
use Rattle.dbtg_step.specs.Core.Parts.{CoreState, machine}
use Rattle.dbtg_step.specs.Core.Runs.{IsHandedOut}
use Rattle.dbtg_step.specs.Inside.Turns.{TurnsLead}
use Rattle.dbtg_step.proofs.MadeWhole.TurnsTaken.{opens_between, turns_handed}
use Rattle.dbtg_step.proofs.taking_turns.run_turns.Goals as goal

pub moves_of_turns-requires : goal.moves_of_turns-requires
moves_of_turns-requires c = opens_between c.args.schema.now c.args.capacity c.args.scripts c.requires.sound c.requires.fit (machine c.in_ok-core.core) c.in_ok-core.ensures

pub returns : goal.returns
returns c =
    let turns = c.args.turns.now in
    let last = c.moves_of_turns.new.core in
    let went = c.in_ok-moves.ensures in
    let lead = subst (λ (x : CoreState). TurnsLead x turns went.0 (machine last)) c.in_ok-core.ensures went.1 in
    record {
      moves = went.0;
      run = turns_handed c.args.schema.now c.args.capacity c.args.scripts c.requires.sound c.requires.fit turns went.0 last lead c.in_ok-run.run' (subst (λ rs. IsHandedOut last rs c.in_ok-run.run') c.new-2.ensures.items c.in_ok-run.ensures);
      given_moves = went.2;
    }
