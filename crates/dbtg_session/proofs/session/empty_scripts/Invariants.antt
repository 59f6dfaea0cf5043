use Rattle.std.proofs.Common.{◌≡◌, [], length, map}
use Rattle.std.specs.Prelude.{replicate}
use Rattle.dbtg_session.specs.declared.session.Script.{Script}
use Rattle.dbtg_session.proofs.session.empty_scripts.Given as goal

abbrev pub invariant-loop : goal.invariant-loop
invariant-loop l = record {
  many : length l.scripts.items ≡ l.counter;
  texts : map (λ (s : Script). s.text.items) l.scripts.items ≡ replicate l.counter [];
  begins : map (λ (s : Script). s.begins.items) l.scripts.items ≡ replicate l.counter [];
}
