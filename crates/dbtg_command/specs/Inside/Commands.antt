-- What `clap` is given for one word, and what it found.
use Rattle.std.specs.Prelude.{◌≡◌, ℕ, false, List, [], Some}
use Rattle.clap.specs.Matches.{found_of}
use Rattle.clap.specs.Simple.{App, app_of, subcommand_rows_of, with_subcommand}
use Rattle.clap.specs.Walk.{Rule, rows_of, rule_of}
use Rattle.clap.specs.declared.builder.arg.Arg.{Arg}
use Rattle.clap.specs.declared.builder.command.Command.{Command}
use Rattle.clap.specs.declared.builder.command.Command.TheViews.{out-Command as fields_of}
use Rattle.clap.specs.declared.parser.matches.ArgMatches.{ArgMatches}
use Rattle.dbtg_command.specs.Calling.{IsCall, LeavesUnit}
use Rattle.dbtg_command.specs.Commands.{file_option, file_word, flag, name_of, number_option, rules_for, shape_with, wish_option, words}
use Rattle.dbtg_command.specs.declared.arguments.Word.{Word}
use Rattle.dbtg_command.specs.declared.arguments.Word.TheVariants as word
use Rattle.dbtg_command.specs.declared.command.Named.{Named}
use Rattle.dbtg_command.specs.declared.call.Call.{Call}

-- a word that excludes an option is not free
abbrev pub excluding : Rule → Rule
excluding rule = record rule { is_free = false }

-- the rule of a word
abbrev pub rule_for : Word → Rule
rule_for (word.Flag name help) = flag name.now
rule_for (word.FlagWithout name other help) = excluding (flag name.now)
rule_for (word.FileOption name help) = file_option name.now
rule_for (word.FileOptionWithout name other help) = excluding (file_option name.now)
rule_for (word.NumberOption name usual help) = number_option name.now usual.now
rule_for (word.WishOption name other help) = excluding (wish_option name.now)
rule_for (word.File name shown help) = file_word name.now
rule_for (word.Words name shown help) = words name.now

-- the argument has this rule, in its own command alone
pub record IsArg (rule : Rule) (arg : Arg) : Type 0 where
  pub rule_is : rule_of arg ≡ rule
  pub local : arg.global ≡ false

-- the command is this one, and gives none of its arguments to others
pub record IsApp (app : App) (command : Command) : Type 0 where
  pub app_is : app_of command ≡ app
  pub local : (fields_of command).has_globals ≡ false

-- a command alone, with this name, that can be given this
abbrev pub alone : List ℕ → List Rule → App
alone name rules = record { top = shape_with name rules; subs = [] }

-- a program that can be asked this too
abbrev pub with_command : App → Named → App
with_command app asked = with_subcommand app (shape_with (name_of asked) (rules_for asked))

-- the call is that of the command that a parse found, with what it found for the command
pub record IsCallIn (matches : ArgMatches) (call : Call) : Type 0 where
  pub given : ArgMatches
  pub met : subcommand_rows_of matches ≡ Some (name_of call.named, rows_of (found_of given))
  pub is_call : IsCall call.named (found_of given) call
  pub unit_left : LeavesUnit call
