-- The program that goes first: whether it ends, and what is told of it beside what is printed.
-- lists is the schema that a text says, texts are those of the programs, count is how many there are.
use Rattle.std.specs.Prelude.{ℕ, ◌+◌, ◌&&◌, Bool, true, false, List, [], ◌∷◌, ◌++◌, codes, if◌then◌else◌, length, option_map, slice_get, unwrap_or}
use Rattle.dbtg_schema.specs.Lists.{Lists}
use Rattle.dbtg_going.specs.declared.around.Around.{Around}
use Rattle.dbtg_going.specs.declared.going.ProgramRun.{ProgramRun}
use Rattle.dbtg_going.specs.declared.member.Reached.{Reached}
use Rattle.dbtg_going.specs.declared.member.Standing.{Standing}
use Rattle.dbtg_going.specs.declared.member.Standing.TheVariants.{Ended, Spent, GoesOn}
use Rattle.dbtg_going.specs.Turns.{others}
use Rattle.dbtg_replay.specs.Refused.{refusals_text}
use Rattle.dbtg_running.specs.Echoing.{scripts_made}

-- its unit has made all statements that a unit can make, and another is due
abbrev pub is_spent : Standing → Bool
is_spent (Ended how) = false
is_spent Spent = true
is_spent GoesOn = false

-- there is a first program, which stands behind the others, and it does not end
abbrev pub never_ends : Around → ℕ → List Reached → Bool
never_ends around count reached = around.first && unwrap_or (option_map (λ r. is_spent r.standing) (slice_get reached (others around count))) false

-- that it does not end, or which of its statements were refused
abbrev pub told_of_unit : Bool → List ℕ → List ℕ
told_of_unit true refusals = codes "the first program does not end" ++ 10 ∷ []
told_of_unit false refusals = refusals

-- what is told of the first program, each statement as it was made; nothing if there is none
abbrev pub told_of_first : Lists → ℕ → Around → List (List ℕ) → ProgramRun → List ℕ
told_of_first lists capacity around texts given =
    let history = given.run.history in
    let refusals = refusals_text (codes "first program") capacity (others around (length texts) + 1) (scripts_made lists 1 texts history) history in
    if around.first then told_of_unit (never_ends around (length texts) given.programs) refusals else []
