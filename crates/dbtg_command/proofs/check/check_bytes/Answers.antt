use Rattle.std.proofs.Common.{length}
use Rattle.std.proofs.lemmas.Result.{IfErr-weaker, IfOk-weaker}
use Rattle.dbtg_command.specs.declared.order.Order.TheVariants.{Serial}
use Rattle.dbtg_command.specs.Checking.{ChecksHeld, IsCheck}
use Rattle.dbtg_command.specs.Refusals.{RefusesTexts}
use Rattle.dbtg_command.specs.Inside.Sources.{StandsIn}
use Rattle.dbtg_command.specs.Sources.{ToldOfTexts}
use Rattle.dbtg_command.proofs.BytesAtHand.{OnlyMemory, at_hand_check, texts_told}
use Rattle.dbtg_command.proofs.check.check_bytes.Goals as goal

pub returns-clause-done : goal.returns-clause-done
returns-clause-done c =
    let schema = c.args.schema.now in
    let scripts = c.args.scripts.now in
    IfOk-weaker c.check.result (λ out. ChecksHeld (StandsIn schema scripts Serial) (length scripts) out.items) (λ out. IsCheck schema scripts out.items)
    (λ out held. at_hand_check schema scripts out.items held) c.check.ensures.done

pub returns-clause-refused : goal.returns-clause-refused
returns-clause-refused c =
    let schema = c.args.schema.now in
    let scripts = c.args.scripts.now in
    IfErr-weaker c.check.result (λ fault. ToldOfTexts (StandsIn schema scripts Serial) OnlyMemory fault (length scripts)) (λ fault. RefusesTexts fault schema scripts)
    (λ fault told. texts_told fault schema scripts Serial told) c.check.ensures.refused
