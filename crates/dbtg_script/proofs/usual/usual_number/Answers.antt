use Rattle.std.proofs.Common.{arith}
use Rattle.dbtg_script.proofs.Reading.Numbers.{short_is_spelled}
use Rattle.dbtg_script.proofs.usual.usual_number.Goals as goal

pub returns-clause-value : goal.returns-clause-value
returns-clause-value c =
    let is = c.in_ok-number.ensures in
    short_is_spelled c.args.digits c.args.text.now c.in_ok-number.number is.value is.below is.short (omega arith)
