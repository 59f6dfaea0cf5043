-- Where each order places a new member.
use Rattle.std.specs.Prelude.{◌≡◌, refl, ℕ, ◌==◌, Bool, true, false, List, [], ◌∷◌, Some}
use Rattle.dbtg_schema.specs.declared.shape.Duplicates.{Duplicates}
use Rattle.dbtg_schema.specs.declared.shape.Duplicates.TheVariants.{First, Last, NotAllowed}
use Rattle.dbtg_cells.specs.declared.key.Value.TheVariants.{Num}
use Rattle.dbtg_cells.specs.Placed.{After, Before, Among, placed}
use Rattle.dbtg_unit.specs.Database.Statements.Effect.{comes_before}

-- pairs of a sort key and a name
abbrev pub sorted_in : Bool → Duplicates → ℕ × ℕ → List (ℕ × ℕ) → List (ℕ × ℕ)
sorted_in ascending duplicates m = placed (Among (λ x. comes_before ascending duplicates (Some (Num x.0)) (Some (Num m.0)))) m

ascending_last : sorted_in true Last (3, 9) ((1, 1) ∷ (3, 2) ∷ (5, 3) ∷ []) ≡ (1, 1) ∷ (3, 2) ∷ (3, 9) ∷ (5, 3) ∷ []
ascending_last = refl

ascending_first : sorted_in true First (3, 9) ((1, 1) ∷ (3, 2) ∷ (5, 3) ∷ []) ≡ (1, 1) ∷ (3, 9) ∷ (3, 2) ∷ (5, 3) ∷ []
ascending_first = refl

descending_last : sorted_in false Last (3, 9) ((5, 1) ∷ (3, 2) ∷ (1, 3) ∷ []) ≡ (5, 1) ∷ (3, 2) ∷ (3, 9) ∷ (1, 3) ∷ []
descending_last = refl

descending_first : sorted_in false First (3, 9) ((5, 1) ∷ (3, 2) ∷ (1, 3) ∷ []) ≡ (5, 1) ∷ (3, 9) ∷ (3, 2) ∷ (1, 3) ∷ []
descending_first = refl

descending_alone : sorted_in false NotAllowed (4, 9) ((5, 1) ∷ (3, 2) ∷ []) ≡ (5, 1) ∷ (4, 9) ∷ (3, 2) ∷ []
descending_alone = refl

next : placed (After (λ x. x == 2)) 9 (1 ∷ 2 ∷ 3 ∷ []) ≡ 1 ∷ 2 ∷ 9 ∷ 3 ∷ []
next = refl

prior : placed (Before (λ x. x == 2)) 9 (1 ∷ 2 ∷ 3 ∷ []) ≡ 1 ∷ 9 ∷ 2 ∷ 3 ∷ []
prior = refl
