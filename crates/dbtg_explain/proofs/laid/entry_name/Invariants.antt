use Rattle.std.proofs.Common.{◌≡◌, length}
use Rattle.dbtg_script.specs.Lines.{lines}
use Rattle.dbtg_explain.specs.FaultyWord.{entry_name}
use Rattle.dbtg_explain.proofs.laid.entry_name.Given as goal

-- no word already passed is a name
abbrev pub invariant-loop-word : goal.invariant-loop-word
invariant-loop-word l = entry_name (lines l.rest) ≡ entry_name (lines l.words)

abbrev pub decreases-loop-word : goal.decreases-loop-word
decreases-loop-word l = length l.rest
