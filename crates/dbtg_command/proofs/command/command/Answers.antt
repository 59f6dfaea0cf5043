use Rattle.std.proofs.Common.{◌∙◌, ◌+◌, ap, sym, drop}
use Rattle.std.proofs.lemmas.List.{drop_more}
use Rattle.std.specs.Prelude.{fold}
use Rattle.clap.specs.Simple.{App, app_of}
use Rattle.dbtg_command.specs.Inside.Commands.{with_command}
use Rattle.dbtg_command.specs.declared.command.TheConstants.{ALL}
use Rattle.dbtg_command.proofs.Commands.{command_behind}
use Rattle.dbtg_command.proofs.command.command.Goals as goal

pub loop-named-preserved : goal.loop-named-preserved
loop-named-preserved c =
    let at = c.loop-named.named-index in
    ap (λ (a : App). fold with_command a (drop (at + 1) ALL)) (command_behind c.loop-named.command _ _ _ _ c.name_of.ensures c.in_ok-command_of.ensures c.in_ok-command.ensures)
    ∙ sym (ap (fold with_command (app_of c.loop-named.command)) (drop_more ALL at _ c.loop-named-test.true))
    ∙ c.loop-named.invariant
