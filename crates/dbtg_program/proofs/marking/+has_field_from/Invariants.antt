use Rattle.std.proofs.Common.{length}
use Rattle.dbtg_program.proofs.marking.+has_field_from.Given as goal

abbrev pub decreases-has_field_from : goal.decreases-has_field_from
decreases-has_field_from l = length l.words.now
