use Rattle.dbtg_command.proofs.Commands.{word_behind}
use Rattle.dbtg_command.proofs.command.described.Goals as goal

pub loop-word-preserved : goal.loop-word-preserved
loop-word-preserved c =
    word_behind c.args.name.now c.args.words.now c.loop-word.word-index _ c.loop-word.command c.in_ok-command.command _ c.loop-word-test.true c.in_ok-arg_of.ensures c.in_ok-command.ensures c.loop-word.invariant
