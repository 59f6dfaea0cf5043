-- If a call follows from what was matched in some words, it is the call of these words.
use Rattle.std.proofs.Common.{◌≡◌, ◌∙◌, List, ℕ, Result, Ok, Err, IfOk, sym, subst}
use Rattle.clap.specs.Simple.{App, HasMatchesOf}
use Rattle.clap.specs.declared.parser.matches.ArgMatches.{ArgMatches}
use Rattle.dbtg_command.specs.declared.call.Call.{Call}
use Rattle.clap.specs.Matches.{found_of}
use Rattle.dbtg_command.specs.Calling.{IsCallOf}
use Rattle.dbtg_command.specs.Commands.{program}
use Rattle.dbtg_command.proofs.Commands.{program_is_simple}
use Rattle.dbtg_command.specs.Inside.Commands.{IsCallIn}

pub called : {E : Type 0} → (words : List (List ℕ)) (app : App) (matches : ArgMatches) (given : Result Call E) → app ≡ program → HasMatchesOf app words matches → IfOk given (IsCallIn matches) → IfOk given (IsCallOf words)
called words app matches (Ok call) same are is =
    let those : HasMatchesOf program words matches = subst (λ (a : App). HasMatchesOf a words matches) same are in
    record { found = found_of is.given; met = sym (those program_is_simple).1 ∙ is.met; is_call = is.is_call; unit_left = is.unit_left }
called words app matches (Err e) same are is = tt
