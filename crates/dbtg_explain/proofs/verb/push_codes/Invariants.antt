use Rattle.std.proofs.Common.{◌≡◌, ◌++◌, length}
use Rattle.std.specs.List.{flat_map}
use Rattle.dbtg_script.specs.Lines.{lines}
use Rattle.dbtg_explain.specs.Verbs.{code_of}
use Rattle.dbtg_explain.specs.declared.statuses.TheConstants.{STATUSES}
use Rattle.dbtg_explain.proofs.verb.push_codes.Given as goal

abbrev pub invariant-loop-status : goal.invariant-loop-status
invariant-loop-status l = l.out.items ++ flat_map (code_of l.verb) (lines l.rest) ≡ l.initial.out.items ++ flat_map (code_of l.verb) (lines STATUSES.now)

abbrev pub decreases-loop-status : goal.decreases-loop-status
decreases-loop-status l = length l.rest
