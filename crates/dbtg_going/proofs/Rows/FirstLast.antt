-- A first and a last program around others: the turns that each gets.
use Rattle.std.specs.Prelude.{◌≡◌, refl, [], ◌∷◌, ◌++◌, Some, None, true, false}
use Rattle.std.specs.Fmt.{digits}
use Rattle.dbtg_unit.proofs.Rows.Defined.Schemas.{card}
use Rattle.dbtg_script.specs.Tokens.{into, onto}
use Rattle.dbtg_script.specs.Reading.{verdict}
use Rattle.dbtg_program.specs.Going.{within}
use Rattle.dbtg_step.specs.Machine.SequentialDatabase.{unit_at}
use Rattle.dbtg_going.specs.declared.around.Around.{Around}
use Rattle.dbtg_going.specs.Turns.{last_turns, other_turns, others, to_the_end, turns_before}
use Rattle.dbtg_going.proofs.Rows.Alternately.{looker, storer, then_made, two_made}

abbrev pub both : Around
both = record { first = true; last = true }

abbrev pub only_last : Around
only_last = record { first = false; last = true }

-- two of four programs are neither first nor last
two_others : others both 4 ≡ 2
two_others = refl

-- the first is unit 3; unit 4, which is the last, ignores the turns that are given
turns_are_told : turns_before both 4 (Some (1 ∷ 4 ∷ 3 ∷ 2 ∷ 4 ∷ [])) ≡ to_the_end 3 ++ 1 ∷ 3 ∷ 2 ∷ []
turns_are_told = refl

-- without a last program no turn is ignored
all_hear : other_turns (record { first = false; last = false }) 2 (Some (2 ∷ 1 ∷ 2 ∷ [])) ≡ 2 ∷ 1 ∷ 2 ∷ []
all_hear = refl

-- if no turns are given, each of the others goes to its end
none_told : other_turns both 4 None ≡ to_the_end 1 ++ to_the_end 2 ++ []
unfolding to_the_end
none_told = refl

-- unit 1 has a statement to make, so the last program does nothing
waits : last_turns card (looker ∷ storer ∷ []) only_last two_made ≡ []
unfolding unit_at within verdict onto into digits
waits = refl

-- unit 1 has ended, and the last program goes to its end
goes : last_turns card (looker ∷ storer ∷ []) only_last then_made ≡ to_the_end 2
unfolding unit_at within verdict onto into digits
goes = refl
