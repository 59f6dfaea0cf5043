use Rattle.std.proofs.Common.{◌≡◌, drop, map}
use Rattle.std.specs.List.{find}
use Rattle.std.specs.Prelude.{is_some}
use Rattle.dbtg_schema.specs.Lookups.{first}
use Rattle.dbtg_program.specs.Faults.{unknown_word}
use Rattle.dbtg_program.specs.Inside.Views.{view_marked}
use Rattle.dbtg_program.proofs.stopping.unknown_among.Given as goal

abbrev pub invariant-loop-word : goal.invariant-loop-word
invariant-loop-word l =
    find (λ m. is_some (first (unknown_word l.text m))) (map view_marked (drop l.word-index l.words)) ≡ find (λ m. is_some (first (unknown_word l.text m))) (map view_marked l.words)
