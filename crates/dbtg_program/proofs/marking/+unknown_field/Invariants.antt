use Rattle.std.proofs.Common.{length}
use Rattle.dbtg_program.proofs.marking.+unknown_field.Given as goal

abbrev pub decreases-unknown_field : goal.decreases-unknown_field
decreases-unknown_field l = length l.words.now
