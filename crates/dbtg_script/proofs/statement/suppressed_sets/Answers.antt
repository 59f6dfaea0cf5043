use Rattle.std.proofs.Common.{sym}
use Rattle.dbtg_script.proofs.Reading.Suppressed.{none_suppressed}
use Rattle.dbtg_script.proofs.statement.suppressed_sets.Goals as goal

pub returns-else-has : goal.returns-else-has
returns-else-has c =
    sym (none_suppressed c.args.words.now.words c.args.words.now.schema.sets (rw (← c.has.ensures, ← c.has-2.ensures) c.if-has.false))
