-- Worked rows: how a text differs from the first. The lines are written by hand, from the page that says what `--brief` prints.
use Rattle.std.proofs.Common.{◌≡◌, [], ◌∷◌, ◌++◌, refl}
use Rattle.std.specs.Prelude.{codes}
use Rattle.dbtg_script.specs.Lines.{lines}
use Rattle.dbtg_states.specs.Brief.{difference_text}

-- texts of the same lines do not differ
same_lines : difference_text (codes "NEXT 2" ++ 10 ∷ []) (codes "NEXT 2" ++ 10 ∷ []) ≡ []
unfolding lines
same_lines = refl

-- the lines that only the first text has come first, whatever their order
first_in_front : difference_text (codes "A:1" ++ 10 ∷ codes "B:1" ++ 10 ∷ []) (codes "C:1" ++ 10 ∷ codes "A:1" ++ 10 ∷ [])
    ≡ codes "- B:1" ++ 10 ∷ codes "+ C:1" ++ 10 ∷ []
unfolding lines
first_in_front = refl

-- a line that only begins like another is a different line
longer_line : difference_text (codes "A:1" ++ 10 ∷ []) (codes "A:1.2" ++ 10 ∷ []) ≡ codes "- A:1" ++ 10 ∷ codes "+ A:1.2" ++ 10 ∷ []
unfolding lines
longer_line = refl
