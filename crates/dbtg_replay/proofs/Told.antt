-- Statements behind the end of a history have no line.
use Rattle.std.proofs.Common.{◌≡◌, ℕ, ◌≤◌, List, [], ◌∷◌, ◌++◌, length, drop, refl, sym, ap, ◌∙◌}
use Rattle.std.proofs.lemmas.List.{append-nil, drop_all}
use Rattle.dbtg_unit.specs.declared.unit.Entry.{Entry}
use Rattle.dbtg_replay.specs.Refused.{refused_lines}

none_left : (name : List ℕ) (capacity u : ℕ) (lines : List (List ℕ)) → refused_lines name capacity u lines [] ≡ []
none_left name capacity u [] = refl
none_left name capacity u (line ∷ lines) = refl

pub lines_done : (name : List ℕ) (capacity u : ℕ) (lines : List (List ℕ)) (history : List Entry) (i : ℕ) (out all : List ℕ) → length history ≤ i → out ++ refused_lines name capacity u lines (drop i history) ≡ all → out ≡ all
lines_done name capacity u lines history i out all past h =
    sym (append-nil out) ∙ ap (λ (xs : List ℕ). out ++ xs) (sym (ap (refused_lines name capacity u lines) (drop_all i history past) ∙ none_left name capacity u lines)) ∙ h
