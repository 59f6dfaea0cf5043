-- Worked rows: what the words ask the program for.
use Rattle.std.proofs.Common.{◌≡◌, ℕ, true, false, List, [], ◌∷◌, Option, Some, None, refl}
use Rattle.std.specs.Prelude.{codes, option_and_then, option_map}
use Rattle.clap.proofs.OnLiterals.{clap_on_literals}
use Rattle.clap.specs.Simple.{subcommand_of}
use Rattle.clap.specs.Walk.{all_of, one_of}
use Rattle.dbtg_command.specs.Commands.{program}
use Rattle.dbtg_command.specs.Wishing.{wish_in}

-- the command that words name, after the program's
abbrev asked : List (List ℕ) → Option (List ℕ)
asked words = option_map (λ met. met.0) (subcommand_of program (codes "dbtg" ∷ words))

-- the values of an option or of other words
abbrev given : List (List ℕ) → List ℕ → Option (List (List ℕ))
given words id = option_and_then (λ met. all_of id met.1) (subcommand_of program (codes "dbtg" ∷ words))

-- an option that has no value is true or false
abbrev is_given : List (List ℕ) → List ℕ → Option (List ℕ)
is_given words id = option_and_then (λ met. one_of id met.1) (subcommand_of program (codes "dbtg" ∷ words))

abbrev meeting : List (List ℕ)
meeting = codes "replay" ∷ codes "--echo" ∷ codes "--moves" ∷ codes "m" ∷ codes "a.schema" ∷ codes "b" ∷ codes "c" ∷ []

replay_is_asked : asked meeting ≡ Some (codes "replay")
unfolding clap_on_literals
replay_is_asked = refl

-- the first word that is not an option is the schema, and those after it are scripts
schema_is_first : given meeting (codes "schema") ≡ Some (codes "a.schema" ∷ [])
unfolding clap_on_literals
schema_is_first = refl

scripts_follow : given meeting (codes "scripts") ≡ Some (codes "b" ∷ codes "c" ∷ [])
unfolding clap_on_literals
scripts_follow = refl

moves_are_named : given meeting (codes "moves") ≡ Some (codes "m" ∷ [])
unfolding clap_on_literals
moves_are_named = refl

no_turns_are_named : given meeting (codes "turns") ≡ None
unfolding clap_on_literals
no_turns_are_named = refl

echo_is_wanted : is_given meeting (codes "echo") ≡ Some (codes "true")
unfolding clap_on_literals
echo_is_wanted = refl

nothing_is_explained : is_given meeting (codes "explain") ≡ Some (codes "false")
unfolding clap_on_literals
nothing_is_explained = refl

-- if no capacity is given it is 100
capacity_is_100 : given meeting (codes "capacity") ≡ Some (codes "100" ∷ [])
unfolding clap_on_literals
capacity_is_100 = refl

capacity_is_7 : given (codes "shell" ∷ codes "--capacity=7" ∷ codes "a.schema" ∷ []) (codes "capacity") ≡ Some (codes "7" ∷ [])
unfolding clap_on_literals
capacity_is_7 = refl

-- the trace follows the schema, and only statuses are compared if that is asked
trace_follows : given (codes "audit" ∷ codes "--status" ∷ codes "a.schema" ∷ codes "t" ∷ []) (codes "traced") ≡ Some (codes "t" ∷ [])
unfolding clap_on_literals
trace_follows = refl

statuses_are_asked : is_given (codes "audit" ∷ codes "--status" ∷ codes "a.schema" ∷ codes "t" ∷ []) (codes "status") ≡ Some (codes "true")
unfolding clap_on_literals
statuses_are_asked = refl

-- threads and run can print a trace
threads_are_traced : is_given (codes "threads" ∷ codes "--trace" ∷ codes "a.schema" ∷ codes "b" ∷ []) (codes "trace") ≡ Some (codes "true")
unfolding clap_on_literals
threads_are_traced = refl

run_is_not_traced : is_given (codes "run" ∷ codes "a.schema" ∷ codes "b" ∷ []) (codes "trace") ≡ Some (codes "false")
unfolding clap_on_literals
run_is_not_traced = refl

-- if no number of units is given there are 2
units_are_2 : given (codes "audit" ∷ codes "a.schema" ∷ codes "t" ∷ []) (codes "units") ≡ Some (codes "2" ∷ [])
unfolding clap_on_literals
units_are_2 = refl

-- in the command `turns`, the turns come before the schema
turns_are_first : given (codes "turns" ∷ codes "t" ∷ codes "a.schema" ∷ codes "b" ∷ []) (codes "turns") ≡ Some (codes "t" ∷ [])
unfolding clap_on_literals
turns_are_first = refl

-- the two words after a wish belong to it, and the schema comes after them
never_has_two : given (codes "explore" ∷ codes "--never" ∷ codes "2.5" ∷ codes "0803" ∷ codes "a.schema" ∷ []) (codes "never") ≡ Some (codes "2.5" ∷ codes "0803" ∷ [])
unfolding clap_on_literals
never_has_two = refl

schema_behind_wish : given (codes "explore" ∷ codes "--always" ∷ codes "2.5" ∷ codes "0803" ∷ codes "a.schema" ∷ []) (codes "schema") ≡ Some (codes "a.schema" ∷ [])
unfolding clap_on_literals
schema_behind_wish = refl

-- 2.5 0803 is the status 803 of the statement in line 5 of unit 2
wish_is_read : wish_in true (codes "2.5") (codes "0803") ≡ Some (record { never = true; unit = 2; line = 5; status = 803 })
wish_is_read = refl

no_status_of_three : wish_in true (codes "2.5") (codes "803") ≡ None
no_status_of_three = refl

no_unit_0 : wish_in false (codes "0.5") (codes "0000") ≡ None
no_unit_0 = refl
