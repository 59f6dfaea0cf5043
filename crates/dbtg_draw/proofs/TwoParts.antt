-- Two texts, pushed one after the other.
use Rattle.std.proofs.Common.{◌≡◌, ℕ, List, ◌++◌, ap, ◌∙◌}
use Rattle.std.proofs.lemmas.List.{append_assoc}

pub two_parts : (out one two a b : List ℕ) → a ≡ out ++ one → b ≡ a ++ two → b ≡ out ++ (one ++ two)
two_parts out one two a b first second = second ∙ ap (λ (xs : List ℕ). xs ++ two) first ∙ append_assoc out one two
