use Rattle.std.proofs.Common.{◌≡◌, ◌++◌, drop, map}
use Rattle.std.specs.List.{flat_map}
use Rattle.std.specs.Prelude.{option_to_list}
use Rattle.dbtg_program.specs.Inside.Views.{view_holding}
use Rattle.dbtg_program.proofs.told.push_paragraph_names.Given as goal

abbrev pub invariant-loop-sentence : goal.invariant-loop-sentence
invariant-loop-sentence l =
    map (λ name. name.now) l.names.items ++ flat_map (λ s. option_to_list s.paragraph) (map view_holding (drop l.sentence-index l.sentences))
    ≡ map (λ name. name.now) l.initial.names.items ++ flat_map (λ s. option_to_list s.paragraph) (map view_holding l.sentences)
