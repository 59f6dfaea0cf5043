use Rattle.std.proofs.lemmas.Result.{IfOk-weaker}
use Rattle.dbtg_command.specs.Commands.{file_option, flag, wish_option}
use Rattle.dbtg_command.specs.Inside.Commands.{IsArg, excluding}
use Rattle.dbtg_command.proofs.Commands.{in_conflict}
use Rattle.dbtg_command.proofs.arguments.arg_of.Goals as goal

pub returns-in-FlagWithout : goal.returns-in-FlagWithout
returns-in-FlagWithout c = rw c.in-FlagWithout.is
    (IfOk-weaker c.conflicts_with.result _ (IsArg (excluding (flag c.in-FlagWithout.name.now))) (λ arg adds. in_conflict c.flag-in-FlagWithout.result arg _ _ c.flag-in-FlagWithout.ensures adds) c.conflicts_with.ensures)

pub returns-in-FileOptionWithout : goal.returns-in-FileOptionWithout
returns-in-FileOptionWithout c = rw c.in-FileOptionWithout.is
    (IfOk-weaker c.conflicts_with-in-FileOptionWithout.result _ (IsArg (excluding (file_option c.in-FileOptionWithout.name.now))) (λ arg adds. in_conflict c.file_option-in-FileOptionWithout.result arg _ _ c.file_option-in-FileOptionWithout.ensures adds) c.conflicts_with-in-FileOptionWithout.ensures)

pub returns-in-WishOption : goal.returns-in-WishOption
returns-in-WishOption c = rw c.in-WishOption.is
    (IfOk-weaker c.conflicts_with-in-WishOption.result _ (IsArg (excluding (wish_option c.in-WishOption.name.now))) (λ arg adds. in_conflict c.wish_option.result arg _ _ c.wish_option.ensures adds) c.conflicts_with-in-WishOption.ensures)
