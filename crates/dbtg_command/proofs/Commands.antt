-- What `clap` is given of the program.
use Rattle.std.proofs.Common.{◌≡◌, ◌∙◌, ◌+◌, ◌++◌, ◌==◌, ◌||◌, ◌<◌, Bool, true, false, List, ℕ, [], ◌∷◌, refl, ap, sym, length, map, take, slice_index_or, arith}
use Rattle.std.specs.Borrow.{Bor}
use Rattle.std.proofs.lemmas.List.{length-append, map_more}
use Rattle.clap.specs.Adds.{AddsConflicts}
use Rattle.clap.specs.Built.{AddsArg, AddsSubcommand}
use Rattle.clap.specs.Simple.{App, app_of, is_simple, with_rule, with_subcommand}
use Rattle.clap.specs.Walk.{Rule, is_empty, is_free_arg, rule_of}
use Rattle.clap.specs.declared.builder.arg.Arg.{Arg}
use Rattle.clap.specs.declared.builder.command.Command.{Command}
use Rattle.dbtg_command.specs.Commands.{name_of, program, rules_for, shape_with}
use Rattle.dbtg_command.specs.Inside.Commands.{IsApp, IsArg, alone, rule_for, with_command}
use Rattle.dbtg_command.specs.declared.arguments.Word.{Word}
use Rattle.dbtg_command.specs.declared.command.Named.{Named}

-- the program is so simple that `clap` says what it matches
pub program_is_simple : is_simple program ≡ true
program_is_simple = refl

not_free : (a : Arg) → is_empty a.conflicts.items ≡ false → is_free_arg a ≡ false
not_free a h = by a.exclusive refl
  where
    by : (e : Bool) → a.exclusive ≡ e → is_free_arg a ≡ false
    by true e = rw e refl
    by false e = rw (e, h) refl

not_empty : {X : Type 0} (xs : List X) (x : X) → is_empty (xs ++ x ∷ []) ≡ false
not_empty xs x = longer (length (xs ++ x ∷ [])) (length-append xs (x ∷ []))
  where
    longer : (n : ℕ) → n ≡ length xs + 1 → (n == 0) ≡ false
    longer n e = rw e (grind arith)

-- an argument that excludes another is not free
pub in_conflict : (old new : Arg) (rule : Rule) (id : Bor (List ℕ)) → IsArg rule old → AddsConflicts old new (id ∷ []) → IsArg (record rule { is_free = false }) new
in_conflict old new rule id is adds =
    let some : is_empty new.conflicts.items ≡ false = ap is_empty adds.1 ∙ not_empty old.conflicts.items id in
    let bound : rule_of new ≡ record (rule_of new) { is_free = false } = ap (λ (b : Bool). record (rule_of new) { is_free = b }) (not_free new some) in
    record {
      rule_is = bound ∙ ap (λ (a : Arg). record (rule_of a) { is_free = false }) adds.0 ∙ ap (λ (r : Rule). record r { is_free = false }) is.rule_is;
      local = ap (λ (a : Arg). a.global) adds.0 ∙ is.local;
    }

or_false : (a b : Bool) → b ≡ false → (a || b) ≡ a
or_false true b e = refl
or_false false b e = e

-- a command with one more word
pub word_behind : (name : List ℕ) (words : List Word) (i : ℕ) (d : Word) (old new : Command) (arg : Arg) → i < length words → IsArg (rule_for (slice_index_or words i d)) arg → AddsArg old arg new
    → IsApp (alone name (map rule_for (take i words))) old → IsApp (alone name (map rule_for (take (i + 1) words))) new
word_behind name words i d old new arg lt is adds before = record {
  app_is = adds.shape is.local ∙ ap (with_rule (app_of old)) is.rule_is ∙ ap (λ (a : App). with_rule a (rule_for (slice_index_or words i d))) before.app_is ∙ ap (alone name) (sym (map_more rule_for words i d lt));
  local = adds.globals ∙ or_false _ _ is.local ∙ before.local;
}

-- a program with one more command
pub command_behind : (old new sub : Command) (name : List ℕ) (asked : Named) → name ≡ name_of asked → IsApp (alone name (rules_for asked)) sub → AddsSubcommand old sub new → app_of new ≡ with_command (app_of old) asked
command_behind old new sub name asked called is adds =
    adds.shape is.local ∙ ap (λ (a : App). with_subcommand (app_of old) a.top) is.app_is ∙ ap (λ (n : List ℕ). with_subcommand (app_of old) (shape_with n (rules_for asked))) called
