-- Three texts, pushed one after another.
use Rattle.std.proofs.Common.{◌≡◌, ℕ, List, ◌++◌, ap, ◌∙◌}
use Rattle.std.proofs.lemmas.List.{append_assoc}

pub three_parts : (out one two three a b c : List ℕ) → a ≡ out ++ one → b ≡ a ++ two → c ≡ b ++ three → c ≡ out ++ ((one ++ two) ++ three)
three_parts out one two three a b c first second third =
    third ∙ ap (λ (xs : List ℕ). xs ++ three) (second ∙ ap (λ (xs : List ℕ). xs ++ two) first ∙ append_assoc out one two)
    ∙ append_assoc out (one ++ two) three
