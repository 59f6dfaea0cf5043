use Rattle.std.proofs.Common.{◌≡◌, ◌++◌, drop, map}
use Rattle.dbtg_explain.specs.Explaining.{filled}
use Rattle.dbtg_explain.proofs.row.push_form.Given as goal

abbrev pub invariant-loop-b : goal.invariant-loop-b
invariant-loop-b l = l.out.items ++ filled (map (λ part. part.now) l.parts) (drop l.b-index l.form) ≡ l.initial.out.items ++ filled (map (λ part. part.now) l.parts) l.form
