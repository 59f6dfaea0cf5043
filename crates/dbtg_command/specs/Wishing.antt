-- A wish for the status of a statement, as the command's words say it.
use Rattle.std.specs.Prelude.{ℕ, ◌==◌, Bool, true, false, List, [], ◌∷◌, Option, Some, None, length, option_and_then, option_map, if◌then◌else◌}
use Rattle.dbtg_script.specs.Printing.Spelling.{behind, in_front}
use Rattle.dbtg_script.specs.declared.limits.TheConstants.{SCRIPT_BYTES}
use Rattle.dbtg_explain.specs.Explaining.{number_in}
use Rattle.dbtg_command.specs.declared.limits.TheConstants.{MOST_UNITS}
use Rattle.dbtg_command.specs.declared.wished.Wished.{Wished}
use Rattle.dbtg_command.specs.Capacity.{count_in}

-- a status of four digits
abbrev pub status_in : List ℕ → Option ℕ
status_in word = if length word == 4 then number_in 9999 word else None

-- unit and line, with a period between them, and a status
abbrev pub wish_in : Bool → List ℕ → List ℕ → Option Wished
wish_in never place status =
    option_and_then (λ u. option_and_then (λ i. option_map (λ s. record { never = never; unit = u; line = i; status = s }) (status_in status)) (count_in SCRIPT_BYTES (behind 46 place))) (count_in MOST_UNITS (in_front 46 place))

-- the wish that the two words of an option say; none if the option has no words
abbrev pub wish_for : Bool → List (List ℕ) → Option (Option Wished)
wish_for never [] = Some None
wish_for never (place ∷ []) = None
wish_for never (place ∷ status ∷ []) = option_map (λ wish. Some wish) (wish_in never place status)
wish_for never (place ∷ status ∷ word ∷ words) = None

-- the wish that a status never comes, if there is one, or that it always does
abbrev pub wish_of_either : List (List ℕ) → List (List ℕ) → Option (Option Wished)
wish_of_either [] always = wish_for false always
wish_of_either (place ∷ words) always = wish_for true (place ∷ words)
