-- Printing a trace, entry for entry.
use Rattle.std.proofs.Common.{◌≡◌, ℕ, ◌≤◌, List, [], ◌∷◌, ◌++◌, length, drop, refl, sym, ap, ◌∙◌}
use Rattle.std.proofs.lemmas.List.{append-nil, drop_all}
use Rattle.dbtg_schema.specs.Lists.{Lists}
use Rattle.dbtg_unit.specs.declared.unit.Entry.{Entry}
use Rattle.dbtg_trace.specs.Printing.{trace_lines}

no_lines : (schema : Lists) (statements : List (List ℕ)) → trace_lines schema statements [] ≡ []
no_lines schema [] = refl
no_lines schema (s ∷ ss) = refl

-- where no entry is left, no line is left to print
pub lines_done : (schema : Lists) (statements : List (List ℕ)) (history : List Entry) (i : ℕ) (out all : List ℕ) → length history ≤ i → out ++ trace_lines schema statements (drop i history) ≡ all → out ≡ all
lines_done schema statements history i out all past h =
    sym (append-nil out) ∙ ap (λ (xs : List ℕ). out ++ xs) (sym (ap (trace_lines schema statements) (drop_all i history past) ∙ no_lines schema statements)) ∙ h
