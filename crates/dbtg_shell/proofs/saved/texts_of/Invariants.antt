use Rattle.std.proofs.Common.{◌≡◌, ◌++◌, drop, map}
use Rattle.dbtg_shell.proofs.saved.texts_of.Given as goal

abbrev pub invariant-loop-script : goal.invariant-loop-script
invariant-loop-script l = map (λ t. t.now) l.texts.items ++ map (λ s. s.text.items) (drop l.script-index l.script-items) ≡ l.session.texts
