use Rattle.std.proofs.Common.{◌≡◌, ◌++◌, flat_map, take}
use Rattle.dbtg_exploring.specs.Statuses.{status_text}
use Rattle.dbtg_exploring.proofs.statuses.push_each_status.Given as goal

abbrev pub invariant-loop-reply : goal.invariant-loop-reply
invariant-loop-reply l = l.out.items ≡ l.initial.out.items ++ flat_map (status_text l.unit l.line) (take l.reply-index l.replies)
