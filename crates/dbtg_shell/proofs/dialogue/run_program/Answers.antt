use Rattle.std.proofs.Common.{refl}
use Rattle.dbtg_shell.specs.Programs.{HasBegun}
use Rattle.dbtg_shell.proofs.ProgramSteps.{nothing_yet, told_of}
use Rattle.dbtg_session.proofs.Public.{on_err}
use Rattle.dbtg_shell.proofs.dialogue.run_program.Goals as goal

pub returns-in-Err : goal.returns-in-Err
returns-in-Err c =
    let u = c.args.shell.now.turn in
    let old = c.args.shell.now.session in
    let text = c.args.text.now in
    record {
      run = told_of c.write_refusal.result u old text c.schema.result.now c.in-Err.fault c.schema.ensures c.in-Err.ensures.refused.0 c.write_refusal.ensures;
      part = on_err c.write_refusal.result (HasBegun u old text old) (nothing_yet u old text);
      turn = refl;
    }
