-- Words beside `Courses` that private functions and lemmas use.
use Rattle.std.specs.Prelude.{ℕ, ◌≡◌, ◌==◌, true, Option, Some, ⊤}
use Rattle.std.specs.List.{list_any}
use Rattle.dbtg_unit.specs.Hands.Hands.{Hands}
use Rattle.dbtg_erase.specs.Inside.Course.{HasAllOf}
use Rattle.dbtg_step.specs.declared.course.Course.{Course}
use Rattle.dbtg_step.specs.declared.course.Course.TheVariants.{Refused, HasAreas}

-- nothing is left to be settled but cells
abbrev pub IsBehindAreas : Option Course → Type 0
IsBehindAreas (Some Refused) = ⊤
IsBehindAreas (Some (HasAreas course)) = ⊤
IsBehindAreas _ = ⊥

-- each area of the first hands is in the second, and each cell, as it is
pub record HasMore (hands hands' : Hands) : Type 0 where
  pub areas : (a : ℕ) → list_any (λ b. b == a) hands.areas ≡ true → list_any (λ b. b == a) hands'.areas ≡ true
  pub cells : HasAllOf hands hands'
