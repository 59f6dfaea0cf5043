use Rattle.std.proofs.Common.{◌≡◌, ◌+◌, ◌≤◌, drop, length}
use Rattle.dbtg_script.specs.Labels.{texts}
use Rattle.dbtg_script.specs.Inside.Views.{views}
use Rattle.dbtg_script.proofs.queries.count.Given as goal

abbrev pub invariant-loop-word : goal.invariant-loop-word
invariant-loop-word l = record { so_far : l.n + length (texts l.role (views (drop l.word-index l.words))) ≡ length (texts l.role (views l.words)); bound : l.n ≤ l.word-index }
