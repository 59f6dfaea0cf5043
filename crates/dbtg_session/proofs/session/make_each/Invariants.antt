use Rattle.std.proofs.Common.{◌≡◌, take}
use Rattle.dbtg_session.proofs.session.make_each.Given as goal

-- those in front are made
abbrev pub invariant-loop-entry : goal.invariant-loop-entry
invariant-loop-entry l = l.database ≡ record l.initial.database { history = take l.entry-index l.history }
